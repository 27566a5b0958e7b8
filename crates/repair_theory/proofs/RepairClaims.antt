-- The claims about a repair hold of whoever keeps the promise (specs/RepairClaims). Assumes nothing.
use Prim.Native.Nat.{ℕ, ◌+◌, ◌*◌, ◌<◌, ◌≤◌}
use mathlib.Core.Path.{◌≡◌, refl, sym, ap, subst, ◌∙◌}
use mathlib.Core.Bool.{true, not, ◌&&◌}
use mathlib.Core.List.{List, [], ◌++◌}
use native.Mathlib.Nat.{not-suc-le-zero}
use native.Mathlib.Decide.{dec_lt}
use native.Mathlib.Omega.{arith}
use borrow.Author.Tests.{eqb-true, eqb-false, eq-eqb, ne_eqb, not-true, le-ltb}
use lib.Dec.{eqb}
use lib.ListN.{length, get_or, take, drop, length-append, length-drop, get_or-append, get_or-eq_default}
use lib.Seq.{take_at, drop_at}
use Rattle.machine.specs.Check.{header_ok, length_ok, table_code, Accepted}
use Rattle.machine.proofs.Bools.{and_left, and_right, cond-elim}
use Rattle.repair_theory.specs.Mend.{mended, mendable}
use Rattle.repair_theory.specs.Claims.{Mended, AddsNoRight, AddsNoRightInAnyReading, AltersOnlyBroken}
use Rattle.repair_theory.proofs.Mended.{mended-length}
use Rattle.repair_theory.proofs.Claims.{each-part-mended, accepted-exactly, mended-accepted, sound-stays, no-right-added, no-right-in-any-reading, only-broken-altered}
use Rattle.repair_theory.specs.Changes.{differing, change_pairs, changes, put_back}
use Rattle.repair_theory.specs.Repair.{altered, altered_count, repair_code, RepairOutcome, refusal, repaired, repair}
use Rattle.repair_theory.specs.RepairClaims as claims
use Rattle.repair_theory.specs.RepairClaims.{PromisedRepair, CodeExactly, ReportsChanges, ReportedExactly}
use Rattle.repair_theory.proofs.Changes.{Lists, none-listed, lists-numbers, pairs-length, pairs-place, pairs-content, put-back-changes, differs_at}
use Rattle.repair_theory.proofs.Outcomes.{altered-length, altered-few, code-exactly, repair-elim}

-- the outcome that was promised
abbrev outcome_of : {t list : List ℕ} → PromisedRepair t list → RepairOutcome
outcome_of r = record { code = r.code; count = r.count; table = r.end; list = r.reported }

-- what holds of a repaired table and of a refusal holds of what was promised
promised : (t list : List ℕ) (P : RepairOutcome → Type 0)
    → (mendable t ≡ true → length (altered t) ≤ length list → P (repaired t list))
    → ((n : ℕ) → (n ≡ 0 → ⊥) → n ≡ repair_code t (length list) → P (refusal n t list))
    → (r : PromisedRepair t list)
    → P (outcome_of r)
promised t list P done refused r =
    let same : repair t list ≡ outcome_of r = rw (r.kept.same_code, r.kept.same_count, r.kept.same_table, r.kept.same_list) in
    subst P same (repair-elim t list P done refused)

pub every-repair-accepted : claims.EveryRepairAccepted
unfolding repaired refusal
every-repair-accepted t list =
    promised t list (λ o. o.code ≡ 0 → Accepted o.table) (λ can _ _. mended-accepted t can) (λ n some _ none. absurd (some none))

pub every-repair-mended : claims.EveryRepairMended
unfolding repaired refusal mendable
every-repair-mended t list =
    promised t list (λ o. o.code ≡ 0 → Mended t o.table)
    (λ can _ _.
    let framed = and_left (header_ok t && length_ok t) _ can in
    each-part-mended t (and_left (header_ok t) (length_ok t) framed) (and_right (header_ok t) (length_ok t) framed))
    (λ n some _ none. absurd (some none))

pub every-refusal-alters-nothing : claims.EveryRefusalAltersNothing
unfolding repaired refusal
every-refusal-alters-nothing t list =
    promised t list (λ o. (o.code ≡ 0 → ⊥) → (o.count ≡ 0) × (o.table ≡ t) × (o.list ≡ list))
    (λ _ _ refused. absurd (refused refl))
    (λ n _ _ _. (refl, refl, refl))

-- ---- the code

-- the code of a repair is the one for its table and the length of its list
repair-code : (t list : List ℕ) → (repair t list).code ≡ repair_code t (length list)
unfolding repair repaired refusal
repair-code t list =
    let n = repair_code t (length list) in
    cond-elim (λ (o : RepairOutcome). o.code ≡ n) (eqb n 0) (λ none. sym (eqb-true n 0 none)) (λ _. refl)

pub every-repair-code : claims.EveryRepairCode
every-repair-code t list r =
    subst (CodeExactly t (length list)) (sym (r.kept.same_code ∙ repair-code t list)) (code-exactly t (length list))

pub twice-the-table-is-enough : claims.TwiceTheTableIsEnough
twice-the-table-is-enough t list r can long =
    (every-repair-code t list r).repaired.1 (can, omega (arith, long, altered-few t))

-- ---- the rights

pub every-repair-adds-no-right : claims.EveryRepairAddsNoRight
unfolding repaired refusal
every-repair-adds-no-right t list =
    promised t list (λ o. AddsNoRight t o.table × AddsNoRightInAnyReading t o.table)
    (λ _ _. (no-right-added t, no-right-in-any-reading t))
    (λ n _ _. (λ h g k _ _ shown. shown, λ shows none h g r _ _ shown. shown))

pub every-repair-alters-only-broken : claims.EveryRepairAltersOnlyBroken
unfolding repaired refusal
every-repair-alters-only-broken t list =
    promised t list (λ o. AltersOnlyBroken t o.table)
    (λ _ _. only-broken-altered t)
    (λ n _ _ i altered. absurd (altered refl))

-- ---- the list

-- a list that begins with the changes reports them
module _ (old new rest : List ℕ) (size : length new ≡ length old) where
  lists : Lists (length old) (differs_at old new) (differing old new)
  unfolding differing
  lists = lists-numbers (length old) (differs_at old new)

  in-front : (i : ℕ) → i < 2 * length (differing old new) → get_or (changes old new ++ rest) i 0 ≡ get_or (change_pairs old (differing old new)) i 0
  unfolding changes
  in-front i l = get_or-append (change_pairs old (differing old new)) rest 0 i (omega (arith, pairs-length old (differing old new)))

  place_at : (j : ℕ) → j < length (differing old new) → get_or (changes old new ++ rest) (2 * j) 0 ≡ get_or (differing old new) j 0
  place_at j l = in-front (2 * j) (omega arith) ∙ pairs-place old (differing old new) j l

  tells : ReportsChanges old new (changes old new ++ rest) (length (differing old new))
  tells =
      record {
        differs =
            λ j l same.
            let at = place_at j l in
            eqb-false _ _ (not-true _ (lists.passes j l)) (subst (λ (i : ℕ). get_or old i 0 ≡ get_or new i 0) at (sym same));
        content =
            λ j l. in-front (2 * j + 1) (omega arith) ∙ pairs-content old (differing old new) j l ∙ ap (λ (i : ℕ). get_or old i 0) (sym (place_at j l));
        ascending =
            λ j l. omega (arith, place_at j (omega arith), place_at (j + 1) l, lists.ascend j l);
        every =
            λ i differs.
            let (j, l, at) = lists.all i (within i differs (dec_lt i (length old))) (ap not (ne_eqb _ _ (λ e. differs (sym e)))) in
            (j, l, place_at j l ∙ at);
      }
    where
      within : (i : ℕ) → (get_or new i 0 ≡ get_or old i 0 → ⊥) → Dec (i < length old) → i < length old
      within i differs (yes l) = l
      within i differs (no l) =
          absurd (differs (get_or-eq_default new 0 (omega arith) ∙ sym (get_or-eq_default old 0 (omega arith))))

  changes-length : length (changes old new) ≡ 2 * length (differing old new)
  unfolding changes
  changes-length = pairs-length old (differing old new)

  past : drop (2 * length (differing old new)) (changes old new ++ rest) ≡ rest
  past = drop_at (changes old new) rest _ changes-length

  -- and they can be put back
  back : put_back new (take (2 * length (differing old new)) (changes old new ++ rest)) ≡ old
  back =
      ap (put_back new) (take_at (changes old new) rest _ changes-length)
      ∙ put-back-changes old new size

pub every-repair-reported-exactly : claims.EveryRepairReportedExactly
unfolding repaired refusal altered altered_count
every-repair-reported-exactly t list =
    promised t list (λ o. ReportedExactly t o.table list o.list o.count)
    (λ _ room.
    record {
      pairs = tells t (mended t) (drop (length (altered t)) list) (mended-length t);
      past = past t (mended t) (drop (length (altered t)) list) (mended-length t) ∙ ap (λ (k : ℕ). drop k list) (altered-length t);
      size = length-append (altered t) (drop (length (altered t)) list) ∙ simp length-drop (omega arith);
    })
    (λ n _ _.
    record {
      pairs =
          record {
            differs = λ j l. absurd (not-suc-le-zero l);
            content = λ j l. absurd (not-suc-le-zero l);
            ascending = λ j l. absurd (not-suc-le-zero l);
            every = λ i differs. absurd (differs refl);
          };
      past = refl;
      size = refl;
    })

pub every-repair-put-back : claims.EveryRepairPutBack
unfolding repaired refusal altered altered_count put_back
every-repair-put-back t list =
    promised t list (λ o. put_back o.table (take (2 * o.count) o.list) ≡ t)
    (λ _ _. back t (mended t) (drop (length (altered t)) list) (mended-length t))
    (λ n _ _. refl)

-- ---- a sound table

-- a table differs nowhere from itself
nothing-differs : (t : List ℕ) → differing t t ≡ []
unfolding differing
nothing-differs t = none-listed (length t) (differs_at t t) (λ i. ap not (eq-eqb (get_or t i 0) (get_or t i 0) refl))

pub every-sound-table-stays : claims.EverySoundTableStays
unfolding repaired refusal altered altered_count repair_code changes change_pairs
every-sound-table-stays t list r a =
    promised t list (λ o. (o.code ≡ 0) × (o.count ≡ 0) × (o.table ≡ t) × (o.list ≡ list))
    (λ _ _. (refl, ap length nothing, stays, ap (λ (is : List ℕ). change_pairs t is ++ drop (length (change_pairs t is)) list) nothing))
    (λ n some due. absurd (some (due ∙ accepted)))
    r
  where
    stays : mended t ≡ t
    stays = sound-stays t a

    nothing : differing t (mended t) ≡ []
    nothing = ap (differing t) stays ∙ nothing-differs t

    can : mendable t ≡ true
    can = sym (accepted-exactly t) ∙ eq-eqb _ _ (ap table_code stays ∙ a)

    accepted : repair_code t (length list) ≡ 0
    accepted = rw (can, nothing, le-ltb (length list) 0 (omega arith))
