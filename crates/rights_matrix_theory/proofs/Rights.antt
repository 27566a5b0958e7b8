-- The rows hold a table's rights (specs/Claims). Assumes nothing.
use mathlib.Core.Path.{◌≡◌, refl, sym, ap, ap₂, ◌∙◌}
use mathlib.Core.Logic.{⊎_elim}
use mathlib.Core.Bool.{cond, ◌&&◌}
use mathlib.Core.List.{List, [], ◌∷◌}
use Prim.Native.Nat.{ℕ, zero, suc, ◌+◌, ◌-◌, ◌*◌, ◌/◌, ◌%◌, ◌<◌, ◌≤◌}
use native.Mathlib.Nat.{mod-eq_of_lt, not-suc-le-zero}
use native.Mathlib.Decide.{dec_lt, ℕ_discrete}
use native.Mathlib.Omega.{arith}
use lib.Arith.{digits_lt, digits_div, digits_mod}
use lib.Dec.{leb, ltb}
use lib.ListN.{length, get_or, take, drop, set, length-set, length-take, length-append, get_or-append, get_or-eq_default}
use lib.Seq.{get_or-set_same, get_or-set_other, get_or-take, get_or-drop, get_or_at}
use borrow.Author.Tests.{lt-ltb, le-leb, lt-leb}
use Rattle.machine.specs.Below.{words_below}
use Rattle.machine.specs.Word.{payload, word}
use Rattle.machine.specs.Table.{domains, rights_at, rights_word, rights}
use Rattle.machine.proofs.Below.{below-or-last, words-length, words-at}
use Rattle.machine.proofs.Accepted.{accepted-counts}
use Rattle.machine.proofs.Step.{rights-held}
use Rattle.rights_matrix_theory.specs.Rows.{held_in, with_held, rows_below, row_of, rows_of, is_rights, stored_rows}
use Rattle.rights_matrix_theory.specs.Claims.{Sixteen, LoadedRights, PutIsHeld, StoredRights}

-- ---- the rows f 0, f 1, .., f (k - 1)
pub rows-length : (k : ℕ) (f : ℕ → List ℕ) → length (rows_below k f) ≡ k
unfolding rows_below
rows-length zero f = refl
rows-length (suc k) f = length-append (rows_below k f) (f k ∷ []) ∙ rw (rows-length k f) (omega arith)

pub rows_at : (k : ℕ) (f : ℕ → List ℕ) (i : ℕ) → i < k → get_or (rows_below k f) i [] ≡ f i
unfolding rows_below
rows_at zero f i l = absurd (not-suc-le-zero l)
rows_at (suc k) f i l =
    ⊎_elim
    (λ b. get_or-append (rows_below k f) (f k ∷ []) [] i (omega (arith, rows-length k f)) ∙ rows_at k f i b)
    (λ e. get_or_at (rows_below k f) (f k) [] [] i (rows-length k f ∙ sym e) ∙ ap f (sym e))
    (below-or-last k i l)

-- ---- one place

-- an index below sixteen has no more than four bits
held_plain : (rows : List (List ℕ)) (h g : ℕ) → h < 16 → g < 16 → held_in rows h g ≡ get_or (get_or rows h []) g 0
unfolding held_in
held_plain rows h g lh lg = rw (mod-eq_of_lt lh, mod-eq_of_lt lg)

-- ---- loaded rows
module _ (n : ℕ) (t : List ℕ) where
  row_from : ℕ → List ℕ
  row_from h = row_of (cond (ltb h n) (take n (drop (rights_at n h 0) t)) [])

  row-long : (h : ℕ) → length (row_from h) ≡ 16
  unfolding row_of row_from
  row-long h = words-length 16 _

  all-sixteen : Sixteen (rows_of n t)
  unfolding rows_of row_from
  all-sixteen =
      record { many = rows-length 16 row_from; long = λ h l. ap length (rows_at 16 row_from h l) ∙ row-long h }

  -- a place of a domain's row
  taken-place : (h g : ℕ) → h < 16 → g < 16 → h < n → held_in (rows_of n t) h g ≡ get_or (take n (drop (rights_at n h 0) t)) g 0 % 256
  unfolding rows_of row_of row_from
  taken-place h g lh lg l =
      held_plain (rows_of n t) h g lh lg
      ∙ ap (λ (r : List ℕ). get_or r g 0) (rows_at 16 row_from h lh)
      ∙ ap (λ (b : _). get_or (row_of (cond b (take n (drop (rights_at n h 0) t)) [])) g 0) (lt-ltb h n l)
      ∙ words-at 16 (λ k. get_or (take n (drop (rights_at n h 0) t)) k 0 % 256) g 0 lg

-- a small payload has no more than eight bits
small-payload : (w : ℕ) → payload w ≤ 15 → w % 256 ≡ payload w
small-payload w few = omega arith

pub loaded-rights : LoadedRights
unfolding rights rights_word
loaded-rights t a =
    let n = domains t in
    let few = (accepted-counts t a).1 in
    record {
      sixteen = all-sixteen n t;
      same =
          λ h g lh lg.
          let at : rights_at n h 0 + g ≡ rights_at n h g = omega arith in
          taken-place n t h g (omega arith) (omega arith) lh
          ∙ ap (λ (w : ℕ). w % 256) (get_or-take n (drop (rights_at n h 0) t) g 0 lg ∙ get_or-drop (rights_at n h 0) t g 0 ∙ ap (λ (i : ℕ). get_or t i 0) at)
          ∙ small-payload _ (rights-held t a h g lh lg);
      nothing =
          λ h g lh past lg.
          taken-place n t h g (omega arith) lg lh
          ∙ ap (λ (w : ℕ). w % 256) (get_or-eq_default (take n (drop (rights_at n h 0) t)) 0 {n = g} (omega (arith, length-take n (drop (rights_at n h 0) t))));
    }

-- ---- put into rows
module _ (rows : List (List ℕ)) (h g s : ℕ) (x : Sixteen rows) (lh : h < 16) (lg : g < 16) where
  row : List ℕ
  row = set (get_or rows h []) g s

  with-plain : with_held rows h g s ≡ set rows h row
  unfolding with_held row
  with-plain = rw (mod-eq_of_lt lh, mod-eq_of_lt lg)

  with-row : get_or (with_held rows h g s) h [] ≡ row
  with-row = ap (λ (r : List (List ℕ)). get_or r h []) with-plain ∙ get_or-set_same rows h row [] (omega (arith, x.many))

  with-other : (i : ℕ) → (i ≡ h → ⊥) → get_or (with_held rows h g s) i [] ≡ get_or rows i []
  with-other i ne = ap (λ (r : List (List ℕ)). get_or r i []) with-plain ∙ get_or-set_other rows h i row [] ne

  row-size : length row ≡ 16
  unfolding row
  row-size = length-set (get_or rows h []) g s ∙ x.long h lh

  long-still : (i : ℕ) → i < 16 → Dec (i ≡ h) → length (get_or (with_held rows h g s) i []) ≡ 16
  long-still i l (yes e) = ap (λ (k : ℕ). length (get_or (with_held rows h g s) k [])) e ∙ ap length with-row ∙ row-size
  long-still i l (no ne) = ap length (with-other i ne) ∙ x.long i l

  others-still : (i j : ℕ) → i < 16 → j < 16 → (i ≡ h → j ≡ g → ⊥) → Dec (i ≡ h) → held_in (with_held rows h g s) i j ≡ held_in rows i j
  unfolding row
  others-still i j li lj ne (yes e) =
      held_plain (with_held rows h g s) i j li lj
      ∙ ap (λ (k : ℕ). get_or (get_or (with_held rows h g s) k []) j 0) e
      ∙ ap (λ (r : List ℕ). get_or r j 0) with-row
      ∙ get_or-set_other (get_or rows h []) g j s 0 (ne e)
      ∙ ap (λ (k : ℕ). get_or (get_or rows k []) j 0) (sym e)
      ∙ sym (held_plain rows i j li lj)
  others-still i j li lj ne (no apart) =
      held_plain (with_held rows h g s) i j li lj
      ∙ ap (λ (r : List ℕ). get_or r j 0) (with-other i apart)
      ∙ sym (held_plain rows i j li lj)

  held-now : held_in (with_held rows h g s) h g ≡ s
  unfolding row
  held-now =
      held_plain (with_held rows h g s) h g lh lg
      ∙ ap (λ (r : List ℕ). get_or r g 0) with-row
      ∙ get_or-set_same (get_or rows h []) g s 0 (omega (arith, x.long h lh))

pub put-is-held : PutIsHeld
put-is-held rows h g s x lh lg =
    record {
      sixteen =
          record {
            many = ap length (with-plain rows h g s x lh lg) ∙ length-set rows h _ ∙ x.many;
            long = λ i l. long-still rows h g s x lh lg i l (ℕ_discrete i h);
          };
      held = held-now rows h g s x lh lg;
      others = λ i j li lj ne. others-still rows h g s x lh lg i j li lj ne (ℕ_discrete i h);
    }

-- ---- stored rows
pub stored-rights : StoredRights
unfolding stored_rows is_rights
stored-rights n rows t there =
    record {
      size = words-length (length t) f;
      rights_words =
          λ h g lh lg.
          let i = rights_at n h g in
          let below : h * n + g < n * n = digits_lt lh lg in
          let back : i - 1 ≡ h * n + g = omega arith in
          words-at (length t) f i 0 (omega arith)
          ∙ rw (le-leb 1 i (omega arith), le-leb i (n * n) (omega arith))
          (ap₂ (λ (x y : ℕ). word 2 (held_in rows x y)) (ap (λ (k : ℕ). k / n) back ∙ digits_div h lg) (ap (λ (k : ℕ). k % n) back ∙ digits_mod h lg));
      header = words-at (length t) f 0 0 (omega arith);
      behind = λ i past. out-behind i past (dec_lt i (length t));
    }
  where
    f : ℕ → ℕ
    f i = cond (leb 1 i && leb i (n * n)) (word 2 (held_in rows ((i - 1) / n) ((i - 1) % n))) (get_or t i 0)

    out-behind : (i : ℕ) → n * n < i → Dec (i < length t) → get_or (words_below (length t) f) i 0 ≡ get_or t i 0
    out-behind i past (yes l) =
        words-at (length t) f i 0 l ∙ rw (le-leb 1 i (omega arith), lt-leb i (n * n) past)
    out-behind i past (no end) =
        get_or-eq_default (words_below (length t) f) 0 {n = i} (omega (arith, words-length (length t) f))
        ∙ sym (get_or-eq_default t 0 {n = i} (omega arith))
