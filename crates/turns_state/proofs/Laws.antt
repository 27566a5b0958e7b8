-- Laws of a domain's seventeen words (specs/Pending): the tests and their parts, what the two copies make of the words, and what is
-- pending in the words that they leave. Assumes nothing.
use mathlib.Core.Path.{◌≡◌, refl, sym, ap, ap₂, ◌∙◌}
use mathlib.Core.Bool.{true, false}
use mathlib.Core.List.{List, [], ◌∷◌, ◌++◌, append_assoc}
use Prim.Native.Nat.{ℕ, suc, ◌+◌, ◌-◌, ◌≤◌, min}
use native.Mathlib.Decide.{dec_le}
use native.Mathlib.Omega.{arith}
use borrow.Author.Tests.{eqb-true, leb-true, le-leb, lt-leb}
use borrow.Rule.Slice.PartMut.{put_mid}
use lib.Dec.{eqb, leb}
use lib.ListN.{length, get_or, take, drop, set, length-append, length-drop}
use lib.Seq.{length-take-le, take_at, drop_at, drop-drop, take-add, paste}
use Rattle.machine.proofs.Bools.{and_left, and_right}
use Rattle.turns_theory.specs.Turns.{most_pending}
use Rattle.turns_state.specs.Pending.{block_length, count, pending_in, enqueuable, enqueued, left_by_enqueue, dequeuable, dequeued, left_by_dequeue, MayEnqueue, MayDequeue}

pub may-enqueue : (b : List ℕ) (more : ℕ) → enqueuable b more ≡ true → MayEnqueue b more
unfolding enqueuable
may-enqueue b more h = record { size = eqb-true _ _ (and_left _ _ h); room = leb-true _ _ (and_right (eqb (length b) block_length) _ h) }

pub may-dequeue : (b : List ℕ) (few : ℕ) → dequeuable b few ≡ true → MayDequeue b few
unfolding dequeuable
may-dequeue b few h = record { size = eqb-true _ _ (and_left _ _ h); there = leb-true _ _ (and_right (eqb (length b) block_length) _ h) }

pub not-enqueued : (b vs : List ℕ) → enqueuable b (length vs) ≡ false → b ≡ left_by_enqueue b vs
unfolding left_by_enqueue
not-enqueued b vs h = rw h

pub enqueued-there : (b vs : List ℕ) → enqueuable b (length vs) ≡ true → enqueued b vs ≡ left_by_enqueue b vs
unfolding left_by_enqueue
enqueued-there b vs h = rw h

pub not-dequeued : (b : List ℕ) (few : ℕ) → dequeuable b few ≡ false → b ≡ left_by_dequeue b few
unfolding left_by_dequeue
not-dequeued b few h = rw h

pub dequeued-there : (b : List ℕ) (few : ℕ) → dequeuable b few ≡ true → dequeued b few ≡ left_by_dequeue b few
unfolding left_by_dequeue
dequeued-there b few h = rw h

-- ---- the count

pub count_most : (b : List ℕ) → count b ≤ most_pending
unfolding count
count_most b = omega arith

pub pending-length : (b : List ℕ) → length b ≡ block_length → length (pending_in b) ≡ count b
unfolding pending_in
pending-length b h =
    length-take-le (count b) (drop 1 b) (let z = length-drop 1 b in let m = count_most b in omega arith)

-- a list is its first word and the rest
cons_drop : (b : List ℕ) → 1 ≤ length b → b ≡ get_or b 0 0 ∷ drop 1 b
cons_drop [] h = absurd (omega arith)
cons_drop (x ∷ xs) h = refl

-- ---- words that are appended

-- the words are copied after those that were pending, and the count is set
pub enqueue-end : (b vs new : List ℕ) (p k : ℕ) → 1 ≤ length b → new ≡ vs → p ≡ count b → k ≡ length vs → set (put_mid (1 + p) k b new) 0 (p + length vs) ≡ enqueued b vs
unfolding enqueued pending_in
enqueue-end b vs new p k h is at wide =
    ap₂ (λ (z : List ℕ) (i : ℕ). set (put_mid (1 + p) i b z) 0 (p + length vs)) is wide
    ∙ ap (λ (i : ℕ). set (put_mid (1 + i) (length vs) b vs) 0 (i + length vs)) at
    ∙ ap₂ (λ (xs ys : List ℕ). set (xs ++ (vs ++ ys)) 0 (count b + length vs)) front (drop-drop (length vs) (1 + count b) b)
  where
    front : take (1 + count b) b ≡ get_or b 0 0 ∷ take (count b) (drop 1 b)
    front =
        let next : 1 + count b ≡ suc (count b) = omega arith in
        ap (λ (k : ℕ). take k b) next ∙ ap (take (suc (count b))) (cons_drop b h)

-- ---- words that move to the front

-- what is dropped of what is taken
drop-take : (few n : ℕ) (l : List ℕ) → few ≤ n → few ≤ length l → drop few (take n l) ≡ take (n - few) (drop few l)
drop-take few n l h k =
    let apart : n ≡ few + (n - few) = omega arith in
    ap (λ (x : ℕ). drop few (take x l)) apart
    ∙ ap (drop few) (take-add few (n - few) l)
    ∙ drop_at (take few l) (take (n - few) (drop few l)) few (length-take-le few l k)

-- the words after the first few are moved, and the count is set
pub dequeue-end : (b new : List ℕ) (few k left : ℕ) → new ≡ paste b 1 (drop (1 + few) b) k → k ≡ count b - few → left ≡ count b - few → MayDequeue b few → set new 0 left ≡ dequeued b few
unfolding dequeued pending_in
dequeue-end b new few k left is wide at p =
    let rest = count b - few in
    let z = length-drop 1 b in
    let m = count_most b in
    let s = p.size in
    ap₂ (λ (xs : List ℕ) (i : ℕ). set xs 0 i) (is ∙ ap (paste b 1 (drop (1 + few) b)) wide) at
    ∙ ap (λ (xs : List ℕ). set (take 1 xs ++ take rest (drop (1 + few) b) ++ drop (1 + rest) b) 0 rest) (cons_drop b (omega arith))
    ∙ ap (λ (ws : List ℕ). rest ∷ (ws ++ drop (1 + rest) b))
    (ap (take rest) (sym (drop-drop few 1 b)) ∙ sym (drop-take few (count b) (drop 1 b) p.there (omega (arith, p.there))))

-- ---- what is pending afterwards

-- a block that begins with a count of at most 16 and has so many words after it
pending-of : (k : ℕ) (ws rest : List ℕ) → k ≤ most_pending → length ws ≡ k → pending_in (k ∷ (ws ++ rest)) ≡ ws
unfolding pending_in count
pending-of k ws rest h is =
    let few : min k most_pending ≡ k = omega arith in
    ap (λ (i : ℕ). take i (ws ++ rest)) few ∙ take_at ws rest k is

pub pending-enqueued : (b vs : List ℕ) → MayEnqueue b (length vs) → pending_in (enqueued b vs) ≡ pending_in b ++ vs
unfolding enqueued
pending-enqueued b vs p =
    ap (λ (ws : List ℕ). pending_in ((count b + length vs) ∷ ws)) (sym (append_assoc (pending_in b) vs _))
    ∙ pending-of (count b + length vs) (pending_in b ++ vs) _ p.room (length-append (pending_in b) vs ∙ ap (λ (k : ℕ). k + length vs) (pending-length b p.size))

pub pending-dequeued : (b : List ℕ) (few : ℕ) → MayDequeue b few → pending_in (dequeued b few) ≡ drop few (pending_in b)
unfolding dequeued
pending-dequeued b few p =
    pending-of (count b - few) (drop few (pending_in b)) _ (let m = count_most b in omega arith)
    (length-drop few (pending_in b) ∙ ap (λ (k : ℕ). k - few) (pending-length b p.size))

-- ---- and how many words there are

pub enqueued-length : (b vs : List ℕ) → MayEnqueue b (length vs) → length (enqueued b vs) ≡ block_length
unfolding enqueued
enqueued-length b vs p =
    let n = length-append (pending_in b) (vs ++ drop (1 + count b + length vs) b) in
    let m = length-append vs (drop (1 + count b + length vs) b) in
    let d = length-drop (1 + count b + length vs) b in
    let s = p.size in
    let r = p.room in
    let w = pending-length b s in
    omega arith

pub dequeued-length : (b : List ℕ) (few : ℕ) → MayDequeue b few → length (dequeued b few) ≡ block_length
unfolding dequeued
dequeued-length b few p =
    let n = length-append (drop few (pending_in b)) (drop (1 + (count b - few)) b) in
    let m = length-drop few (pending_in b) in
    let d = length-drop (1 + (count b - few)) b in
    let s = p.size in
    let r = p.there in
    let w = pending-length b s in
    let k = count_most b in
    omega arith

-- ---- the tests

-- so many more have room where they are no more than what is left
pub room-left : (b : List ℕ) (more k : ℕ) → k ≡ count b → leb more (16 - k) ≡ leb (count b + more) most_pending
room-left b more k is = go (dec_le more (16 - k))
  where
    m : count b ≤ most_pending
    m = count_most b

    go : Dec (more ≤ 16 - k) → leb more (16 - k) ≡ leb (count b + more) most_pending
    go (yes l) = le-leb more (16 - k) l ∙ sym (le-leb (count b + more) most_pending (omega (arith, is, m, l)))
    go (no l) = lt-leb more (16 - k) (omega arith) ∙ sym (lt-leb (count b + more) most_pending (omega (arith, is, m, l)))
