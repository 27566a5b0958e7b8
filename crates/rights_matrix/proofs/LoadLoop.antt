-- The rows of a table as they are loaded, one after the other. Assumes nothing.
use mathlib.Core.Path.{◌≡◌, refl, sym, ap₂, ◌∙◌}
use mathlib.Core.Bool.{true, false, cond}
use mathlib.Core.List.{List, []}
use Prim.Native.Nat.{ℕ, ◌+◌, ◌-◌, ◌*◌, ◌<◌, ◌≤◌}
use native.Mathlib.Nat.{mul-le-mul_right, add-sub_cancel_left}
use native.Mathlib.Decide.{dec_lt}
use native.Mathlib.Omega.{arith}
use lib.Dec.{ltb}
use lib.ListN.{length, get_or, take, drop, replicate, get_or-replicate}
use lib.Seq.{ext_get_or}
use borrow.Author.Tests.{lt-ltb, le-ltb}
use Rattle.machine.specs.Below.{words_below}
use Rattle.machine.specs.Table.{rights_at}
use Rattle.rights_matrix_theory.specs.Rows.{rows_below, row_of, rows_of, has_rights}
use Rattle.rights_matrix_theory.proofs.Rights.{rows-length, rows_at}
use Rattle.rights_matrix.proofs.Filling.{Filling}

-- ---- what follows from the test of the table
pub record HasRights (n size : ℕ) : Type 0 where
  pub few : n ≤ 16
  pub there : n * n < size

-- a holder's rights words are there
pub row_within : (n size h : ℕ) → HasRights n size → h < n → rights_at n h 0 + n ≤ size
row_within n size h r l = let up : (h + 1) * n ≤ n * n = mul-le-mul_right n (omega arith) in omega (arith, r.there)

-- the part that is lent for it
pub row-part : (t : List ℕ) (n h at : ℕ) → at ≡ rights_at n h 0 → take (at + n - at) (drop at t) ≡ take n (drop (rights_at n h 0) t)
row-part t n h at is = ap₂ (λ (k a : ℕ). take k (drop a t)) (add-sub_cancel_left at n) is

-- ---- the rows one after the other
abbrev pub row_at : ℕ → List ℕ → ℕ → List ℕ
row_at n t h = row_of (take n (drop (rights_at n h 0) t))

abbrev pub no_rows : List (List ℕ)
no_rows = replicate 16 (replicate 16 0)

pub nothing-in : (t : List ℕ) → no_rows ≡ rows_of 0 t
unfolding rows_of rows_below row_of words_below
nothing-in t = refl

no_row : replicate 16 0 ≡ row_of []
unfolding row_of words_below
no_row = refl

pub rows-filled : (n : ℕ) (t : List ℕ) (rows : List (List ℕ)) (i : ℕ) → n ≤ 16 → Filling [] (row_at n t) no_rows rows i → n ≡ i → rows ≡ rows_of n t
unfolding rows_of
rows-filled n t rows i few s all =
    ext_get_or [] rows (rows_below 16 f) (s.size ∙ sym (rows-length 16 f))
    (λ j l. go j (omega (arith, s.size)) (dec_lt j n) ∙ sym (rows_at 16 f j (omega (arith, s.size))))
  where
    f : ℕ → List ℕ
    f h = row_of (cond (ltb h n) (take n (drop (rights_at n h 0) t)) [])

    go : (j : ℕ) → j < 16 → Dec (j < n) → get_or rows j [] ≡ f j
    go j l (yes less) = s.done j (omega arith) ∙ rw (lt-ltb j n less)
    go j l (no past) = s.rest j (omega arith) ∙ get_or-replicate 16 j (replicate 16 0) [] l ∙ no_row ∙ rw (le-ltb j n (omega arith))

-- the loaded rows, on either side of the test
pub taken_none : (n : ℕ) (t : List ℕ) → has_rights n (length t) ≡ false → no_rows ≡ rows_of (cond (has_rights n (length t)) n 0) t
taken_none n t h = rw h (nothing-in t)

pub taken-all : (n : ℕ) (t : List ℕ) (rows : List (List ℕ)) → has_rights n (length t) ≡ true → rows ≡ rows_of n t → rows ≡ rows_of (cond (has_rights n (length t)) n 0) t
taken-all n t rows h e = rw h e
