-- The rows stored to a table's rights words, one row after the other. Assumes nothing.
use mathlib.Core.Path.{◌≡◌, sym, ap, ap₂, subst, ◌∙◌}
use mathlib.Core.Bool.{true, cond, ◌&&◌}
use mathlib.Core.List.{List, ◌++◌}
use Prim.Native.Nat.{ℕ, zero, suc, ◌+◌, ◌-◌, ◌*◌, ◌/◌, ◌%◌, ◌<◌, ◌≤◌}
use native.Mathlib.Nat.{add-sub_cancel_left}
use native.Mathlib.Decide.{dec_lt}
use native.Mathlib.Omega.{arith}
use lib.Arith.{digits_div, digits_mod}
use lib.Dec.{leb}
use lib.ListN.{length, get_or, take, drop}
use lib.Seq.{ext_get_or}
use borrow.Author.Tests.{le-leb, lt-leb}
use Rattle.machine.specs.Below.{words_below}
use Rattle.machine.specs.Word.{word}
use Rattle.machine.specs.Table.{rights_at}
use Rattle.machine.proofs.Below.{words-length, words-at}
use Rattle.rights_matrix_theory.specs.Rows.{held_in, is_rights, stored_rows, has_rights}
use Rattle.rights_matrix.proofs.Parts.{part_length, put_part, put-length, put-before, put_in, put-behind}
use Rattle.rights_matrix.proofs.LoadLoop.{HasRights, row_within, row-part}

-- the rights word after word 0 and j others
abbrev word_out : ℕ → List (List ℕ) → ℕ → ℕ
word_out n rows j = word 2 (held_in rows (j / n) (j % n))

-- the rows of the first h holders are stored
pub record Out (n : ℕ) (rows : List (List ℕ)) (t₀ t : List ℕ) (h : ℕ) : Type 0 where
  pub size : length t ≡ length t₀
  pub header : get_or t 0 0 ≡ get_or t₀ 0 0
  pub done : (j : ℕ) → j < h * n → get_or t (1 + j) 0 ≡ word_out n rows j
  pub rest : (j : ℕ) → h * n ≤ j → get_or t (1 + j) 0 ≡ get_or t₀ (1 + j) 0

module _ (n : ℕ) (rows : List (List ℕ)) (t₀ : List ℕ) where
  module _ (t : List ℕ) (h : ℕ) (s : Out n rows t₀ t h) (r : HasRights n (length t₀)) (l : h < n) where
    a : ℕ
    a = rights_at n h 0

    there : a + n ≤ length t
    unfolding a
    there = omega (arith, row_within n (length t₀) h r l, s.size)

    -- one row more
    pub out-next : (ys : List ℕ) → ys ≡ words_below n (λ g. word 2 (held_in rows h g)) → Out n rows t₀ (put_part t (rights_at n h 0) n ys) (h + 1)
    unfolding a
    out-next ys is =
        let long : length ys ≡ n = ap length is ∙ words-length n _ in
        record {
          size = put-length t a n ys there long ∙ s.size;
          header = put-before t a n ys there long 0 (omega arith) ∙ s.header;
          done = λ j b. go long j b (dec_lt j (h * n));
          rest =
              λ j b.
              put-behind t a n ys there long (1 + j) (omega arith) ∙ s.rest j (omega arith);
        }
      where
        go : length ys ≡ n → (j : ℕ) → j < (h + 1) * n → Dec (j < h * n) → get_or (put_part t a n ys) (1 + j) 0 ≡ word_out n rows j
        go long j b (yes less) = put-before t a n ys there long (1 + j) (omega arith) ∙ s.done j less
        go long j b (no past) =
            let g = j - h * n in
            let below : g < n = omega arith in
            let at : a + g ≡ 1 + j = omega arith in
            let is-j : h * n + g ≡ j = omega arith in
            ap (λ (i : ℕ). get_or (put_part t a n ys) i 0) (sym at)
            ∙ put_in t a n ys there long g below
            ∙ ap (λ (ws : List ℕ). get_or ws g 0) is
            ∙ words-at n (λ k. word 2 (held_in rows h k)) g 0 below
            ∙ ap₂ (λ (x y : ℕ). word 2 (held_in rows x y)) (sym (digits_div h below)) (sym (digits_mod h below))
            ∙ ap (word_out n rows) is-j

    -- the same by the part that was lent
    pub out-row :
        (at : ℕ)
        → at ≡ rights_at n h 0
        → (ys : List ℕ)
        → ys ≡ words_below (length (take (at + n - at) (drop at t))) (λ g. word 2 (held_in rows h g))
        → Out n rows t₀ (take at t ++ (ys ++ drop (at + n - at) (drop at t))) (h + 1)
    unfolding a
    out-row at is ys made =
        subst (λ (x : List ℕ). Out n rows t₀ x (h + 1))
        (ap₂ (λ (k i : ℕ). take i t ++ (ys ++ drop k (drop i t))) (sym (add-sub_cancel_left at n)) (sym is))
        (out-next ys
        (made
        ∙ ap (λ (k : ℕ). words_below k (λ g. word 2 (held_in rows h g)))
        (ap length (row-part t n h at is) ∙ part_length t (rights_at n h 0) n there)))

  -- every row is stored
  pub out-end : (t : List ℕ) (h : ℕ) → Out n rows t₀ t h → h ≡ n → t ≡ stored_rows n rows t₀
  unfolding stored_rows is_rights
  out-end t h s all =
      ext_get_or 0 t (words_below (length t₀) f) (s.size ∙ sym (words-length (length t₀) f))
      (λ i l. at i ∙ sym (words-at (length t₀) f i 0 (omega (arith, s.size))))
    where
      f : ℕ → ℕ
      f i = cond (leb 1 i && leb i (n * n)) (word 2 (held_in rows ((i - 1) / n) ((i - 1) % n))) (get_or t₀ i 0)

      behind : (j : ℕ) → Dec (j < n * n) → get_or t (1 + j) 0 ≡ f (1 + j)
      behind j (yes l) =
          rw (le-leb 1 (1 + j) (omega arith), le-leb (1 + j) (n * n) (omega arith))
          (s.done j (rw all l) ∙ ap (word_out n rows) (sym (add-sub_cancel_left 1 j)))
      behind j (no past) =
          rw (le-leb 1 (1 + j) (omega arith), lt-leb (1 + j) (n * n) (omega arith)) (s.rest j (rw all (omega arith)))

      at : (i : ℕ) → get_or t i 0 ≡ f i
      at zero = s.header
      at (suc j) =
          let is : suc j ≡ 1 + j = omega arith in
          ap (λ (i : ℕ). get_or t i 0) is ∙ behind j (dec_lt j (n * n)) ∙ ap f (sym is)

-- the table with the rows stored, where the test holds
pub out-all : (n : ℕ) (rows : List (List ℕ)) (t x : List ℕ) → has_rights n (length t) ≡ true → x ≡ stored_rows n rows t → x ≡ cond (has_rights n (length t)) (stored_rows n rows t) t
out-all n rows t x h e = rw h e
