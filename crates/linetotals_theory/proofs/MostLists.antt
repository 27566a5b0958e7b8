-- The row of the most lists that there may be holds. Assumes nothing.
use Prim.Native.Nat.{ℕ, zero, suc, ◌+◌, ◌*◌, ◌≤◌}
use mathlib.Core.Path.{◌≡◌, refl, ap, ◌∙◌}
use mathlib.Core.List.{List, [], ◌∷◌, ◌++◌}
use native.Mathlib.Omega.{arith}
use lib.ListN.{length, take, drop}
use Rattle.input_words.specs.Bytes.{word_at, words_of}
use Rattle.linetotals_input.specs.Input.{Lists, stopped, then, lists_from}
use Rattle.linetotals_input.proofs.ListLaws.{from-many, from_cut, from_list_lem, list-whole}
use Rattle.linetotals_theory.specs.Examples.{empty_lists, EveryMostListsRow}

-- an empty list at the front
one-empty : (left : ℕ) (xs : List ℕ) → lists_from (suc left) (0 ∷ 0 ∷ 0 ∷ 0 ∷ xs) ≡ then [] (lists_from left xs)
one-empty left xs = from_list_lem left (0 ∷ 0 ∷ 0 ∷ 0 ∷ xs) (omega arith) (omega arith) ∙ list-whole left 0 xs (omega arith)

-- so many empty lists at the front: the code is that of what follows, and all of them are lists
code-after : (k left most : ℕ) (xs : List ℕ) → most ≡ k + left → (lists_from most (empty_lists k ++ xs)).code ≡ (lists_from left xs).code
unfolding empty_lists then
code-after zero left most xs e =
    let same : most ≡ left = omega (arith, e) in
    ap (λ (n : ℕ). (lists_from n xs).code) same
code-after (suc k) left zero xs e = absurd (omega (arith, e))
code-after (suc k) left (suc most) xs e =
    ap (λ (x : Lists). x.code) (one-empty most (empty_lists k ++ xs)) ∙ code-after k left most xs (omega (arith, e))

count-after : (k left most : ℕ) (xs : List ℕ) → most ≡ k + left
    → length (lists_from most (empty_lists k ++ xs)).lists ≡ k + length (lists_from left xs).lists
unfolding empty_lists then
count-after zero left most xs e =
    let same : most ≡ left = omega (arith, e) in
    omega (arith, ap (λ (n : ℕ). length (lists_from n xs).lists) same)
count-after (suc k) left zero xs e = absurd (omega (arith, e))
count-after (suc k) left (suc most) xs e =
    omega (arith, ap (λ (x : Lists). length x.lists) (one-empty most (empty_lists k ++ xs)), count-after k left most xs (omega (arith, e)))

pub most-lists-row : EveryMostListsRow
unfolding stopped
most-lists-row b =
    let many = from-many (b ∷ []) (omega arith) in
    record {
      all_ran = count-after 65536 0 65536 (b ∷ []) refl ∙ ap (λ (x : Lists). 65536 + length x.lists) many;
      too_many = code-after 65536 0 65536 (b ∷ []) refl ∙ ap (λ (x : Lists). x.code) many;
      cut_short = code-after 65535 1 65536 (b ∷ []) refl ∙ ap (λ (x : Lists). x.code) (from_cut 0 (b ∷ []) (omega arith) (omega arith));
    }
