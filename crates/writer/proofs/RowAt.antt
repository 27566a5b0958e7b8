-- The call that begins at an index of some rows, and those after it (writer_theory: specs/Rows). Assumes nothing.
use Prim.Native.Nat.{ℕ, zero, suc, ◌+◌, ◌-◌, ◌*◌, ◌<◌, ◌≤◌}
use mathlib.Core.Path.{◌≡◌, refl, sym, ap, ap₂, ◌∙◌}
use mathlib.Core.List.{List, [], ◌∷◌}
use native.Mathlib.Nat.{add-zero}
use native.Mathlib.Decide.{dec_le}
use native.Mathlib.Omega.{arith}
use borrow.Author.Tests.{lt-ltb, le-ltb}
use lib.ListN.{length, get_or, take, drop, length-drop, drop_of_length-le}
use lib.Seq.{drop-cons, drop-drop, take_all, get_or-drop}
use Rattle.calls.specs.declared.Call.{Call}
use Rattle.writer_theory.specs.Rows.{no_call, row_call, call_at, rows_handed_in}

module _ (ws : List ℕ) (at : ℕ) where
  pub too_few : length ws < at + 5 → no_call ≡ call_at ws at
  unfolding call_at
  too_few h = rw (lt-ltb _ _ h)

  pub a-row : at + 5 ≤ length ws → row_call (get_or ws at 0) (get_or ws (at + 1) 0) (get_or ws (at + 2) 0) (get_or ws (at + 3) 0) (get_or ws (at + 4) 0) ≡ call_at ws at
  unfolding call_at
  a-row h = rw (le-ltb _ _ h)

-- one word more in front
word_at : (ws : List ℕ) (at next : ℕ) → suc at ≡ next → at < length ws → drop at ws ≡ get_or ws at 0 ∷ drop next ws
word_at ws at next e l = drop-cons ws at 0 l ∙ ap (λ (n : ℕ). get_or ws at 0 ∷ drop n ws) e

five-words : (ws : List ℕ) (at : ℕ) → at + 5 ≤ length ws
    → drop at ws ≡ get_or ws at 0 ∷ (get_or ws (at + 1) 0 ∷ (get_or ws (at + 2) 0 ∷ (get_or ws (at + 3) 0 ∷ (get_or ws (at + 4) 0 ∷ drop (at + 5) ws))))
five-words ws at h =
    rw (
      word_at ws at (at + 1) (omega arith) (omega arith),
      word_at ws (at + 1) (at + 2) (omega arith) (omega arith),
      word_at ws (at + 2) (at + 3) (omega arith) (omega arith),
      word_at ws (at + 3) (at + 4) (omega arith) (omega arith),
      word_at ws (at + 4) (at + 5) (omega arith) (omega arith),
    )

-- fewer than five words, but some
few_words : (ws : List ℕ) → 1 ≤ length ws → length ws < 5 → rows_handed_in ws ≡ no_call ∷ []
unfolding rows_handed_in
few_words [] low high = absurd (omega arith)
few_words (k ∷ []) low high = refl
few_words (k ∷ (u ∷ [])) low high = refl
few_words (k ∷ (u ∷ (a ∷ []))) low high = refl
few_words (k ∷ (u ∷ (a ∷ (b ∷ [])))) low high = refl
few_words (k ∷ (u ∷ (a ∷ (b ∷ (c ∷ ws))))) low high = absurd (omega arith)

pub front-row : (ws : List ℕ) (at : ℕ) → at < length ws → rows_handed_in (drop at ws) ≡ call_at ws at ∷ rows_handed_in (drop (at + 5) ws)
unfolding rows_handed_in
front-row ws at l = go (dec_le (at + 5) (length ws))
  where
    go : Dec (at + 5 ≤ length ws) → rows_handed_in (drop at ws) ≡ call_at ws at ∷ rows_handed_in (drop (at + 5) ws)
    go (yes h) = ap rows_handed_in (five-words ws at h) ∙ ap (λ (c : Call). c ∷ rows_handed_in (drop (at + 5) ws)) (a-row ws at h)
    go (no n) =
        let short : length ws < at + 5 = omega arith in
        let end : length ws ≤ at + 5 = omega arith in
        let past : drop (at + 5) ws ≡ [] = drop_of_length-le ws end in
        few_words (drop at ws) (omega (arith, length-drop at ws)) (omega (arith, length-drop at ws))
        ∙ ap₂ (λ (c : Call) (cs : List Call). c ∷ cs) (too_few ws at short) (sym (ap rows_handed_in past))

-- the rows from the one of an index on
rows-from : (ws : List ℕ) (i : ℕ) → drop i (rows_handed_in ws) ≡ rows_handed_in (drop (5 * i) ws)
unfolding rows_handed_in
rows-from ws zero = refl
rows-from ws (suc i) =
    let next : suc i ≡ i + 1 = omega arith in
    let one : drop (suc i) (rows_handed_in ws) ≡ drop 1 (drop i (rows_handed_in ws)) = ap (λ (k : ℕ). drop k (rows_handed_in ws)) next ∙ sym (drop-drop 1 i (rows_handed_in ws)) in
    let five : 5 * suc i ≡ 5 * i + 5 = omega arith in
    one ∙ ap (drop 1) (rows-from ws i) ∙ go (dec_le (length ws) (5 * i)) ∙ ap (λ (k : ℕ). rows_handed_in (drop k ws)) (sym five)
  where
    go : Dec (length ws ≤ 5 * i) → drop 1 (rows_handed_in (drop (5 * i) ws)) ≡ rows_handed_in (drop (5 * i + 5) ws)
    go (yes past) =
        let more : length ws ≤ 5 * i + 5 = omega arith in
        rw (drop_of_length-le ws past, drop_of_length-le ws more)
    go (no there) = ap (drop 1) (front-row ws (5 * i) (omega arith))

-- the row of an index is the call of that index
pub row-given : (ws : List ℕ) (i : ℕ) (d : Call) → 5 * i < length ws → call_at ws (5 * i) ≡ get_or (rows_handed_in ws) i d
row-given ws i d l =
    let first : get_or (drop i (rows_handed_in ws)) 0 d ≡ call_at ws (5 * i) = rw (rows-from ws i, front-row ws (5 * i) l) in
    sym first ∙ get_or-drop i (rows_handed_in ws) 0 d ∙ ap (λ (k : ℕ). get_or (rows_handed_in ws) k d) (omega arith)

-- each row has five words, but the last
pub rows-count : (ws : List ℕ) → (5 * length (rows_handed_in ws) ≤ length ws + 4) × (length ws ≤ 5 * length (rows_handed_in ws))
unfolding rows_handed_in
rows-count [] = (omega arith, omega arith)
rows-count (k ∷ []) = (omega arith, omega arith)
rows-count (k ∷ (u ∷ [])) = (omega arith, omega arith)
rows-count (k ∷ (u ∷ (a ∷ []))) = (omega arith, omega arith)
rows-count (k ∷ (u ∷ (a ∷ (b ∷ [])))) = (omega arith, omega arith)
rows-count (k ∷ (u ∷ (a ∷ (b ∷ (c ∷ ws))))) = (omega (arith, (rows-count ws).0), omega (arith, (rows-count ws).1))

-- five words from an index on, as the code takes them
pub cut_row : (ws : List ℕ) (at : ℕ) (x : Call)
    → x ≡ row_call (get_or (take (length ws - at) (drop at ws)) 0 0) (get_or (take (length ws - at) (drop at ws)) 1 0)
    (get_or (take (length ws - at) (drop at ws)) 2 0) (get_or (take (length ws - at) (drop at ws)) 3 0)
    (get_or (take (length ws - at) (drop at ws)) 4 0)
    → at + 5 ≤ length ws
    → x ≡ call_at ws at
cut_row ws at x is h =
    let all : take (length ws - at) (drop at ws) ≡ drop at ws = take_all (length ws - at) (drop at ws) (omega (arith, length-drop at ws)) in
    let words = simp (all, get_or-drop, add-zero) at is in
    words ∙ a-row ws at h
