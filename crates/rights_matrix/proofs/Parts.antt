-- A part of a list that is lent and put back: what is before it, in it and after it. Assumes nothing.
use mathlib.Core.Path.{◌≡◌, sym, ap, ◌∙◌}
use mathlib.Core.List.{List, ◌++◌}
use Prim.Native.Nat.{ℕ, ◌+◌, ◌-◌, ◌<◌, ◌≤◌}
use native.Mathlib.Omega.{arith}
use lib.ListN.{length, get_or, take, drop, length-append, length-drop, get_or-append}
use lib.Seq.{get_or-take, get_or-drop, get_or-append-add, length-take-le}

-- the k elements from place a on, and the list with others in their place
abbrev pub part : List ℕ → ℕ → ℕ → List ℕ
part xs a k = take k (drop a xs)

abbrev pub put_part : List ℕ → ℕ → ℕ → List ℕ → List ℕ
put_part xs a k ys = take a xs ++ (ys ++ drop k (drop a xs))

pub part_at : (xs : List ℕ) (a k i : ℕ) → i < k → get_or (part xs a k) i 0 ≡ get_or xs (a + i) 0
part_at xs a k i l = get_or-take k (drop a xs) i 0 l ∙ get_or-drop a xs i 0

pub part_length : (xs : List ℕ) (a k : ℕ) → a + k ≤ length xs → length (part xs a k) ≡ k
part_length xs a k l = length-take-le k (drop a xs) (simp length-drop (omega arith))

module _ (xs : List ℕ) (a k : ℕ) (ys : List ℕ) (there : a + k ≤ length xs) (long : length ys ≡ k) where
  front : length (take a xs) ≡ a
  front = length-take-le a xs (omega arith)

  pub put-length : length (put_part xs a k ys) ≡ length xs
  put-length = simp (length-append, length-drop) (omega (arith, front))

  pub put-before : (i : ℕ) → i < a → get_or (put_part xs a k ys) i 0 ≡ get_or xs i 0
  put-before i l = get_or-append (take a xs) _ 0 i (omega (arith, front)) ∙ get_or-take a xs i 0 l

  behind-front : (j : ℕ) → get_or (put_part xs a k ys) (a + j) 0 ≡ get_or (ys ++ drop k (drop a xs)) j 0
  behind-front j =
      ap (λ (n : ℕ). get_or (put_part xs a k ys) (n + j) 0) (sym front) ∙ get_or-append-add (take a xs) (ys ++ drop k (drop a xs)) j 0

  pub put_in : (j : ℕ) → j < k → get_or (put_part xs a k ys) (a + j) 0 ≡ get_or ys j 0
  put_in j l = behind-front j ∙ get_or-append ys _ 0 j (omega arith)

  pub put-behind : (i : ℕ) → a + k ≤ i → get_or (put_part xs a k ys) i 0 ≡ get_or xs i 0
  put-behind i l =
      let j = i - (a + k) in
      let at : i ≡ a + (length ys + j) = omega arith in
      ap (λ (n : ℕ). get_or (put_part xs a k ys) n 0) at
      ∙ behind-front (length ys + j)
      ∙ get_or-append-add ys (drop k (drop a xs)) j 0
      ∙ get_or-drop k (drop a xs) j 0
      ∙ get_or-drop a xs (k + j) 0
      ∙ ap (λ (n : ℕ). get_or xs n 0) (omega arith)
