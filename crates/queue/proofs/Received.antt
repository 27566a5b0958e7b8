-- A receive, by what it writes: the waiting messages after the oldest move up, the slot that comes free and the waiting count.
-- Assumes nothing.
use mathlib.Core.Path.{◌≡◌, ap, ◌∙◌}
use mathlib.Core.List.{List, ◌∷◌, ◌++◌, append_assoc}
use Prim.Native.Nat.{ℕ, suc, ◌+◌, ◌-◌, ◌≤◌}
use native.Mathlib.Nat.{add-sub_cancel_left}
use native.Mathlib.Omega.{arith}
use lib.ListN.{length, get_or, take, drop, set, length-drop}
use lib.Seq.{drop-cons, set_at, length_paste_head}
use Rattle.std.specs.List.{copy_within}
use Rattle.machine.specs.Word.{word}
use Rattle.machine.specs.Queue.{waiting, empty_slot, moved_up, received}

-- what is left once they have moved up: the slot that comes free and the waiting count
pub moved_end : (q : List ℕ) → 1 ≤ waiting q → 4 + waiting q ≤ length q
    → set (set (copy_within q 5 (5 + (waiting q - 1)) 4) (4 + (waiting q - 1)) empty_slot) 2 (word 5 (waiting q - 1)) ≡ received q
unfolding received moved_up
moved_end q some within =
    rw (add-sub_cancel_left 5 (waiting q - 1))
    (let left = waiting q - 1 in
    let behind : left ≤ length (drop 5 q) = rw length-drop (omega arith) in
    let at : suc (4 + left) ≡ 4 + waiting q = omega arith in
    let head : List ℕ = take 4 q ++ take left (drop 5 q) in
    ap (λ (l : List ℕ). set l 2 (word 5 left))
    (ap (λ (l : List ℕ). set (head ++ l) (4 + left) empty_slot) (drop-cons q (4 + left) 0 (omega arith))
    ∙ set_at head (get_or q (4 + left) 0) (drop (suc (4 + left)) q) empty_slot (4 + left) (length_paste_head q 4 (drop 5 q) left (omega arith) behind)
    ∙ append_assoc (take 4 q) (take left (drop 5 q)) (empty_slot ∷ drop (suc (4 + left)) q)
    ∙ ap (λ (k : ℕ). take 4 q ++ (take left (drop 5 q) ++ (empty_slot ∷ drop k q))) at))
