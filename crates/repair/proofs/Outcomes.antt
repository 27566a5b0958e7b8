-- The outcome of a repair, by what the code finds: each of its answers is the required one (repair_theory: specs/Repair), and
-- its code is small. Assumes nothing.
use Prim.Native.Nat.{ℕ, ◌*◌, ◌<◌, ◌≤◌}
use mathlib.Core.Path.{◌≡◌, refl, sym, ap, ◌∙◌}
use mathlib.Core.Bool.{true, false}
use mathlib.Core.Logic.{⊎_elim}
use mathlib.Core.List.{List, ◌++◌}
use native.Mathlib.Omega.{arith}
use borrow.Author.Tests.{lt-ltb, le-ltb, ne_eqb}
use lib.ListN.{length, drop}
use Rattle.machine.proofs.Bools.{either}
use Rattle.repair_theory.specs.Mend.{mended, mendable}
use Rattle.repair_theory.specs.Changes.{differing, changes}
use Rattle.repair_theory.specs.Repair.{altered, altered_count, repair_code, refusal, repaired, repair, RepairPromise}
use Rattle.repair.specs.Answer.{repaired_code}
use Rattle.std.specs.Prelude.{⊤, Result, Ok, Err}
use Rattle.std.specs.Result.{is_ok}
use lib.Dec.{eqb}
use Rattle.table_check.specs.Checked.{refusal_code, checked_code}
use Rattle.table_check.specs.declared.TableRefusal.{TableRefusal}
use Rattle.table_check.proofs.Refusals.{refusal-code}
use Rattle.repair.specs.declared.RepairRefusal.{RepairRefusal}
use Rattle.repair.specs.declared.RepairRefusal.TheVariants.{BadFrame, ListTooShort}
use Rattle.repair_theory.proofs.Outcomes.{altered-length, altered-few, mendable-small}
pub use Rattle.repair_theory.proofs.Outcomes.{count_small}

module _ (t list : List ℕ) where
  pub bad-frame : mendable t ≡ false → RepairPromise t list 33 0 t list
  unfolding repair repair_code refusal
  bad-frame can't = record { same_code = rw can't; same_count = rw can't; same_table = rw can't; same_list = rw can't }

  -- more words than the largest table has
  pub too-many-words : 641 < length t → RepairPromise t list 33 0 t list
  too-many-words l =
      ⊎_elim (λ can. absurd (omega (arith, mendable-small t can))) (λ can't. bad-frame can't) (either (mendable t))

  -- the words new are the mended table, and count of them differ
  module _ (can : mendable t ≡ true) (new : List ℕ) (mends : new ≡ mended t) (count : ℕ) (counted : count ≡ length (differing t new)) where
    count-is : count ≡ altered_count t
    unfolding altered_count
    count-is = counted ∙ ap (λ (x : List ℕ). length (differing t x)) mends

    reported-length : length (altered t) ≡ 2 * count
    reported-length = rw count-is (altered-length t)

    pub count_fits : count ≤ 641
    count_fits = omega (arith, count-is, altered-few t, mendable-small t can)

    pub list-too-short : length list < 2 * count → RepairPromise t list 34 0 t list
    unfolding repair repair_code refusal
    list-too-short l =
        let short = lt-ltb (length list) (length (altered t)) (rw reported-length l) in
        record { same_code = rw (can, short); same_count = rw (can, short); same_table = rw (can, short); same_list = rw (can, short) }

    module _ (l : 2 * count ≤ length list) where
      -- there is room for the pairs
      pub room : length (changes t new) ≤ length list
      unfolding altered
      room = rw (mends, reported-length) l

      pub done : (end reported : List ℕ)
          → end ≡ new
          → reported ≡ changes t new ++ drop (length (changes t new)) list
          → RepairPromise t list 0 count end reported
      unfolding repair repair_code repaired altered
      done end reported wrote tells =
          let enough = le-ltb (length list) (length (altered t)) (rw reported-length l) in
          record {
            same_code = rw (can, enough);
            same_count = rw (can, enough) count-is;
            same_table = rw (can, enough) (wrote ∙ mends);
            same_list = rw (can, enough) (tells ∙ ap (λ (x : List ℕ). changes t x ++ drop (length (changes t x)) list) mends);
          }

-- the largest code
pub code-small : (r : Result ℕ RepairRefusal) → repaired_code r ≤ 34
code-small (Ok count) = omega arith
code-small (Err BadFrame) = omega arith
code-small (Err ListTooShort) = omega arith

-- whether the check accepts, as its code says it
pub ok-is : (r : Result ⊤ TableRefusal) → is_ok r ≡ eqb (checked_code r) 0
ok-is (Ok done) = refl
ok-is (Err r) = sym (ne_eqb (refusal_code r) 0 (refusal-code r))
