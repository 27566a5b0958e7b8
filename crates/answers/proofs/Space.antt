-- An answer's words, stored at the start of a lent space. Assumes nothing.
use mathlib.Core.Path.{◌≡◌, ◌∙◌}
use mathlib.Core.List.{List, [], ◌∷◌, ◌++◌, append-nil}
use Prim.Native.Nat.{ℕ, ◌+◌, ◌-◌, ◌<◌, ◌≤◌}
use native.Mathlib.Omega.{arith}
use lib.ListN.{length, take, drop, set, length-take, length-drop, drop_of_length-le}
use lib.Seq.{drop-drop}
use borrow.Author.Tests.{lt-ltb, le-ltb}
use Rattle.machine.proofs.Split.{three-sets}
use Rattle.answers.specs.Answer.{answers_put}

pub too_short : (space words : List ℕ) → length space < 3 → space ≡ answers_put space words
unfolding answers_put
too_short space words short = rw (lt-ltb (length space) 3 short)

pub put_whole : (space words : List ℕ) → 3 ≤ length space → answers_put space words ≡ words ++ drop 3 space
unfolding answers_put
put_whole space words enough = rw (le-ltb (length space) 3 enough)

pub three_put : (space : List ℕ) (a b c : ℕ) → 3 ≤ length space → set (set (set space 0 a) 1 b) 2 c ≡ answers_put space (a ∷ b ∷ c ∷ [])
unfolding answers_put
three_put space a b c enough = rw (le-ltb (length space) 3 enough) (three-sets space 0 a b c (omega arith))

-- three words that are lent from an index on, and returned with an answer
pub lent_back : (space words q : List ℕ) (at : ℕ)
    → at + 3 ≤ length space
    → q ≡ answers_put (take (at + 3 - at) (drop at space)) words
    → take at space ++ (q ++ drop (at + 3 - at) (drop at space)) ≡ take at space ++ (words ++ drop (at + 3) space)
lent_back space words q at fits put =
    let three : at + 3 - at ≡ 3 = omega arith in
    let lent : length (take 3 (drop at space)) ≡ 3 = simp (length-take, length-drop) (omega arith) in
    let put3 = rw three at put in
    let whole = put3 ∙ put_whole (take 3 (drop at space)) words (omega arith) in
    let none : drop 3 (take 3 (drop at space)) ≡ [] = drop_of_length-le (take 3 (drop at space)) {i = 3} (omega arith) in
    rw (three, whole, none, append-nil, drop-drop)
