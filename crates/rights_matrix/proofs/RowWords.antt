-- Rows as they are loaded and stored, place by place. Assumes nothing.
use mathlib.Core.Path.{◌≡◌, sym, ap, ◌∙◌}
use mathlib.Core.List.{List, []}
use Prim.Native.Nat.{ℕ, ◌%◌, ◌<◌, ◌≤◌}
use native.Mathlib.Omega.{arith}
use native.Mathlib.Decide.{dec_lt}
use lib.ListN.{length, get_or, replicate, get_or-replicate, get_or-eq_default}
use lib.Seq.{ext_get_or}
use Rattle.machine.specs.Below.{words_below}
use Rattle.machine.specs.Word.{word}
use Rattle.machine.proofs.Below.{words-length, words-at}
use Rattle.rights_matrix_theory.specs.Rows.{held_in, row_of}
use Rattle.rights_matrix.proofs.Filling.{Filling}

-- ---- one row
zeros : (j : ℕ) → ◌≡◌ {A = ℕ} (get_or (replicate 16 0) j 0) 0
zeros j = go (dec_lt j 16)
  where
    go : Dec (j < 16) → ◌≡◌ {A = ℕ} (get_or (replicate 16 0) j 0) 0
    go (yes l) = get_or-replicate 16 j 0 0 l
    go (no n) = get_or-eq_default (replicate 16 0) 0 {n = j} (omega arith)

-- a row that is filled with all the words there are
pub row-filled : (ws row : List ℕ) (i : ℕ) → Filling 0 (λ g. get_or ws g 0 % 256) (replicate 16 0) row i → length ws ≤ i → row ≡ row_of ws
unfolding row_of
row-filled ws row i s all =
    ext_get_or 0 row (words_below 16 f) (s.size ∙ sym (words-length 16 f))
    (λ j l. go j (omega (arith, s.size)) (dec_lt j i) ∙ sym (words-at 16 f j 0 (omega (arith, s.size))))
  where
    f : ℕ → ℕ
    f g = get_or ws g 0 % 256

    go : (j : ℕ) → j < 16 → Dec (j < i) → get_or row j 0 ≡ f j
    go j l (yes less) = s.done j less
    go j l (no past) =
        s.rest j (omega arith) ∙ zeros j ∙ sym (ap (λ (w : ℕ). w % 256) (get_or-eq_default ws 0 (omega arith)))

-- a place of a row, as the code reads it
pub row-place : (rows : List (List ℕ)) (h g x : ℕ) → g < 16 → x ≡ get_or (get_or rows (h % 16) []) g 0 → word 2 x ≡ word 2 (held_in rows h g)
unfolding held_in
row-place rows h g x l e =
    let at : g ≡ g % 16 = omega arith in
    ap (word 2) (e ∙ ap (λ (k : ℕ). get_or (get_or rows (h % 16) []) k 0) at)
