-- What a loop that counts the calls of a list keeps: the calls counted, and those that begin among the words after the last
-- word read, are together those of the list. The loop has the word before: a word that makes one call with it begins none.
-- Assumes nothing.
use mathlib.Core.Path.{◌≡◌, refl, ap}
use mathlib.Core.Bool.{Bool, true, false, cond}
use mathlib.Core.List.{List, [], ◌∷◌}
use Prim.Native.Nat.{ℕ, ◌+◌, ◌<◌, ◌≤◌}
use native.Mathlib.Numerals.{add-one}
use native.Mathlib.Omega.{arith}
use borrow.Author.Tests.{eqb-true}
use lib.Dec.{eqb}
use lib.ListN.{length, get_or, drop, drop_of_length-le}
use lib.Seq.{drop-cons}
use Rattle.machine.specs.Word.{kind}
use Rattle.machine.specs.Call.{wants_second, pairs, split}
use Rattle.machine.proofs.Bools.{and_right}
use Rattle.machine.proofs.Split.{split_one, split-two}

-- how many calls begin among the words ws, which come after the word p
unfoldable pub begun_after : ℕ → List ℕ → ℕ
begun_after p [] = 0
begun_after p (w ∷ ws) = cond (pairs p w) 0 1 + begun_after w ws

-- a second word makes no call with the word after it
second-pairs : (w v x : ℕ) → pairs w v ≡ true → pairs v x ≡ false
unfolding pairs wants_second
second-pairs w v x h =
    let k : kind v ≡ 15 = eqb-true _ _ (and_right (wants_second (kind w)) (eqb (kind v) 15) h) in
    rw k

-- nor does 0, which the loop has before the first word
zero-pairs : (w : ℕ) → pairs 0 w ≡ false
unfolding pairs wants_second
zero-pairs w = refl

begun-two :
    (w v : ℕ) (ws : List ℕ)
    → (pairs w v ≡ true → begun_after v ws ≡ length (split ws))
    → begun_after 0 (v ∷ ws) ≡ length (split (v ∷ ws))
    → 1 + begun_after w (v ∷ ws) ≡ length (split (w ∷ (v ∷ ws)))
unfolding begun_after
begun-two w v ws both alone = go (pairs w v) refl
  where
    next : 1 + begun_after v ws ≡ length (split (v ∷ ws))
    next = rw (zero-pairs v) at alone

    go : (b : Bool) → pairs w v ≡ b → 1 + (cond b 0 1 + begun_after v ws) ≡ length (split (w ∷ (v ∷ ws)))
    go true h = omega (arith, both h, ap length (split-two w v ws h))
    go false h = omega (arith, next, ap length (split_one w v ws h))

-- after a word that makes no call with the next, every call of the words begins
begun_all : (p : ℕ) (ws : List ℕ) → ((w : ℕ) → pairs p w ≡ false) → begun_after p ws ≡ length (split ws)
unfolding begun_after split
begun_all p [] f = refl
begun_all p (w ∷ []) f = rw (f w)
begun_all p (w ∷ (v ∷ ws)) f =
    rw (f w) (begun-two w v ws (λ h. begun_all v ws (λ x. second-pairs w v x h)) (begun_all 0 (v ∷ ws) zero-pairs))

abbrev pub Counted : List ℕ → ℕ → ℕ → ℕ → Type 0
Counted list calls before i = calls + begun_after before (drop i list) ≡ length (split list)

pub counted_none : (list : List ℕ) → Counted list 0 0 0
counted_none list = omega (arith, begun_all 0 list zero-pairs)

pub counted_next : (list : List ℕ) (calls before i : ℕ) → i < length list → Counted list calls before i → Counted list (calls + cond (pairs before (get_or list i 0)) 0 1) (get_or list i 0) (i + 1)
unfolding begun_after
counted_next list calls before i l h =
    let front : drop i list ≡ get_or list i 0 ∷ drop (i + 1) list = rw (add-one i) (drop-cons list i 0 l) in
    omega (arith, ap (begun_after before) front)

pub one_at_most : (b : Bool) → cond b 0 1 ≤ 1
one_at_most true = omega arith
one_at_most false = omega arith

pub counted_all : (list : List ℕ) (calls before i : ℕ) → length list ≤ i → Counted list calls before i → calls ≡ length (split list)
unfolding begun_after
counted_all list calls before i l h =
    let none : begun_after before (drop i list) ≡ 0 = rw (drop_of_length-le list l) refl in
    omega arith
