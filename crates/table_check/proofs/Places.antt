-- The places 2 to 5 in the order of document 01: what each test says of a table's code (specs/Check of the machine), and what
-- the first two say of the counts in word 0. Assumes nothing.
use mathlib.Core.Path.{◌≡◌, sym, ap, ◌∙◌}
use mathlib.Core.Bool.{Bool, true, false, ◌&&◌, not}
use mathlib.Core.List.{List}
use Prim.Native.Nat.{ℕ, ◌+◌, ◌-◌, ◌*◌, ◌/◌, ◌%◌, ◌≤◌}
use native.Mathlib.Nat.{le-add_right, add-sub_cancel_left}
use native.Mathlib.Omega.{arith}
use borrow.Author.Tests.{leb-true, eqb-true, ne_eqb, not-true, not-false}
use lib.Dec.{eqb, leb}
use lib.ListN.{length, get_or, take, drop, length-drop}
use lib.Seq.{get_or-take, get_or-drop, length-take-le}
use Rattle.machine.specs.Below.{all_below}
use Rattle.machine.proofs.Below.{all_same}
use Rattle.machine.specs.Word.{kind, upper, field_b, field_c}
use Rattle.machine.specs.Table.{domains, endpoints, length_for}
use Rattle.machine.specs.Check.{header_word_ok, rights_word_ok, header_ok, length_ok, rights_ok, table_code}
use Rattle.machine.proofs.Bools.{and_right}
use Rattle.table_check.specs.Checked.{Headed}

-- what a place says of its test where the code gets past it, and where it stops there
pub past : {a b : Bool} → a ≡ b → not a ≡ false → b ≡ true
past {a} e h = sym e ∙ not-false a h

pub stopped : {a b : Bool} → a ≡ b → not a ≡ true → b ≡ false
stopped {a} e h = sym e ∙ not-true a h

module _ (t : List ℕ) where
  pub empty-header : length t ≡ 0 → header_ok t ≡ false
  unfolding header_ok
  empty-header e = rw e

  pub word-header : (length t ≡ 0 → ⊥) → header_ok t ≡ header_word_ok (get_or t 0 0)
  unfolding header_ok
  word-header ne = rw (ne_eqb (length t) 0 ne)

  pub empty_length : length t ≡ 0 → length_ok t ≡ false
  unfolding length_ok
  empty_length e = ne_eqb (length t) (length_for (domains t) (endpoints t)) (λ q. omega arith)

  -- at most 32 endpoints
  pub headed-most : Headed t → get_or t 0 0 % 256 ≤ 32
  unfolding header_ok header_word_ok
  headed-most h =
      let w = get_or t 0 0 in
      leb-true _ _
      (and_right (eqb (kind w) 1 && eqb (upper w) 0 && leb 1 (field_b w) && leb (field_b w) 16) (leb (field_c w) 32) (and_right (not (eqb (length t) 0)) _ h.header))

  pub headed-size : Headed t → length t ≡ 1 + (get_or t 0 0 / 256 % 256) * (get_or t 0 0 / 256 % 256) + 12 * (get_or t 0 0 % 256)
  unfolding length_ok domains endpoints
  headed-size h = eqb-true _ _ h.size

  pub headed-rights : Headed t → 1 + (get_or t 0 0 / 256 % 256) * (get_or t 0 0 / 256 % 256) ≤ length t
  headed-rights h = rw (headed-size h) (le-add_right _ _)

  -- the part of the table with the rights words
  pub rights-part : Headed t
      → (let n = get_or t 0 0 / 256 % 256 in
      let part = take (1 + n * n - 1) (drop 1 t) in
      all_below (length part) (λ i. rights_word_ok (get_or part i 0)) ≡ rights_ok t)
  unfolding rights_ok domains
  rights-part h =
      let n = get_or t 0 0 / 256 % 256 in
      let size : length (take (n * n) (drop 1 t)) ≡ n * n = length-take-le (n * n) (drop 1 t) (omega (arith, headed-rights h, length-drop 1 t)) in
      rw (add-sub_cancel_left 1 (n * n), size)
      (all_same (n * n) _ _ (λ i l. ap rights_word_ok (get_or-take (n * n) (drop 1 t) i 0 l ∙ get_or-drop 1 t i 0)))

  pub code-2 : header_ok t ≡ false → 2 ≡ table_code t
  unfolding table_code
  code-2 h = rw h

  pub code-3 : header_ok t ≡ true → length_ok t ≡ false → 3 ≡ table_code t
  unfolding table_code
  code-3 h l = rw (h, l)
