-- The outcome of a repair: a refusal or a repaired table (specs/Repair), and its count is small. Assumes nothing.
use Prim.Native.Nat.{ℕ, ◌*◌, ◌<◌, ◌≤◌}
use mathlib.Core.Path.{◌≡◌, refl, sym, ◌∙◌}
use mathlib.Core.Bool.{Bool, true, false, cond, not, true≢false}
use mathlib.Core.List.{List}
use native.Mathlib.Omega.{arith}
use borrow.Author.Tests.{ltb-true, ltb-false, eqb-true, eqb-false}
use lib.Dec.{eqb, ltb}
use lib.ListN.{length}
use Rattle.machine.proofs.Bools.{cond-elim}
use Rattle.machine.proofs.WordClaims.{accepted-short}
use Rattle.repair_theory.specs.Mend.{mended, mendable}
use Rattle.repair_theory.proofs.Mended.{mended-length}
use Rattle.repair_theory.proofs.Claims.{mended-accepted}
use Rattle.repair_theory.specs.Changes.{differing, changes}
use Rattle.repair_theory.specs.Repair.{altered, altered_count, repair_code, RepairOutcome, refusal, repaired, repair}
use Rattle.repair_theory.specs.RepairClaims.{CodeExactly}
use Rattle.repair_theory.proofs.Changes.{lists-numbers, pairs-length}

-- two words for each word altered
pub altered-length : (t : List ℕ) → length (altered t) ≡ 2 * altered_count t
unfolding altered altered_count changes
altered-length t = pairs-length t (differing t (mended t))

-- no more words are altered than there are
pub altered-few : (t : List ℕ) → altered_count t ≤ length t
unfolding altered_count differing
altered-few t = (lists-numbers (length t) _).few

-- a table that can be mended has at most 641 words
pub mendable-small : (t : List ℕ) → mendable t ≡ true → length t ≤ 641
mendable-small t can = omega (arith, mended-length t, accepted-short (mended t) (mended-accepted t can))

-- which code is for what
pub code-exactly : (t : List ℕ) (size : ℕ) → CodeExactly t size (repair_code t size)
unfolding repair_code
code-exactly t size = go (mendable t) refl (ltb size (length (altered t))) refl
  where
    go : (a : Bool) → mendable t ≡ a → (b : Bool) → ltb size (length (altered t)) ≡ b → CodeExactly t size (cond (not a) 33 (cond b 34 0))
    go true can true short =
        let less : size < 2 * altered_count t = omega (arith, ltb-true size (length (altered t)) short, altered-length t) in
        record {
          unmendable = (λ e. absurd (omega (arith, e)), λ cannot. absurd (true≢false (sym can ∙ cannot)));
          too_short = (λ e. (can, less), λ e. refl);
          repaired = (λ e. absurd (omega (arith, e)), λ both. absurd (omega (arith, both.1, less)));
        }
    go true can false long =
        let room : 2 * altered_count t ≤ size = omega (arith, ltb-false size (length (altered t)) long, altered-length t) in
        record {
          unmendable = (λ e. absurd (omega (arith, e)), λ cannot. absurd (true≢false (sym can ∙ cannot)));
          too_short = (λ e. absurd (omega (arith, e)), λ both. absurd (omega (arith, both.1, room)));
          repaired = (λ e. (can, room), λ e. refl);
        }
    go false cannot b _ =
        record {
          unmendable = (λ e. cannot, λ e. refl);
          too_short = (λ e. absurd (omega (arith, e)), λ both. absurd (true≢false (sym both.0 ∙ cannot)));
          repaired = (λ e. absurd (omega (arith, e)), λ both. absurd (true≢false (sym both.0 ∙ cannot)));
        }

-- where the code is 0 mending is enough and there is room for the pairs
not-refused : (t : List ℕ) (size : ℕ) → repair_code t size ≡ 0 → (mendable t ≡ true) × (length (altered t) ≤ size)
unfolding repair_code
not-refused t size = go (mendable t) refl (ltb size (length (altered t))) refl
  where
    go : (a : Bool) → mendable t ≡ a → (b : Bool) → ltb size (length (altered t)) ≡ b → ◌≡◌ {A = ℕ} (cond (not a) 33 (cond b 34 0)) 0 → (mendable t ≡ true) × (length (altered t) ≤ size)
    go true can true short z = absurd (omega arith)
    go true can false room z = (can, ltb-false _ _ room)
    go false can b _ z = absurd (omega arith)

-- what holds of a refusal and of a repaired table holds of a repair
pub repair-elim : (t list : List ℕ) (P : RepairOutcome → Type 0)
    → (mendable t ≡ true → length (altered t) ≤ length list → P (repaired t list))
    → ((n : ℕ) → (n ≡ 0 → ⊥) → n ≡ repair_code t (length list) → P (refusal n t list))
    → P (repair t list)
unfolding repair
repair-elim t list P done refused =
    cond-elim P (eqb (repair_code t (length list)) 0)
    (λ none. let (can, room) = not-refused t (length list) (eqb-true _ _ none) in done can room)
    (λ some. refused (repair_code t (length list)) (eqb-false _ _ some) refl)

-- the count of words altered fits the high half of an answer
pub count_small : (t list : List ℕ) → (repair t list).count ≤ 641
unfolding repaired refusal
count_small t list =
    repair-elim t list (λ o. o.count ≤ 641) (λ can _. omega (arith, altered-few t, mendable-small t can)) (λ n _ _. omega arith)
