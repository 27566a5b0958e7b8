-- Laws of the state's words (specs/State): where a domain's are, what they represent, and what is left of the others.
-- Assumes nothing.
use mathlib.Core.Path.{◌≡◌, refl, sym, ap, ◌∙◌}
use mathlib.Core.Bool.{Bool, true, false, cond, not, ◌&&◌}
use mathlib.Core.List.{List}
use Prim.Native.Nat.{ℕ, zero, suc, ◌+◌, ◌<◌, ◌≤◌, min}
use native.Mathlib.Omega.{arith}
use borrow.Author.Tests.{eq-eqb, ne_eqb, lt-leb}
use lib.Dec.{eqb, leb}
use lib.ListN.{length, get_or, take, drop, set, length-take, length-drop}
use lib.Seq.{length-take-le, get_or-take, get_or-drop}
use borrow.Rule.Slice.PartMut.{put_same, same_len_mid}
use Rattle.turns_theory.specs.Turns.{most_pending, waits}
use Rattle.std.specs.Prelude.{None}
use Rattle.turns_state.specs.Pending.{block_length, count, enqueuable, enqueued, left_by_enqueue, dequeuable, left_by_dequeue, second_of_oldest}
use Rattle.turns_state.proofs.Laws.{pending-length, not-dequeued, dequeued-there}
use Rattle.turns_state.specs.State.{state_length, block_at, block, set_block, turns_in, state_handed_in, state_served, added_to, first_of_oldest, removed_from}

module _ (ws : List ℕ) (n d : ℕ) (size : length ws ≡ state_length n) (below : d < n) where
  -- a domain's words are all there
  pub block-length : length (block ws d) ≡ block_length
  unfolding block
  block-length =
      length-take-le block_length (drop (block_at d) ws) (let z = length-drop (block_at d) ws in omega arith)

  -- its first word is its count
  pub block-first : get_or (block ws d) 0 0 ≡ get_or ws (block_at d) 0
  unfolding block
  block-first =
      let same : block_at d + 0 ≡ block_at d = omega arith in
      get_or-take block_length (drop (block_at d) ws) 0 0 (omega arith) ∙ get_or-drop (block_at d) ws 0 0 ∙ ap (λ (i : ℕ). get_or ws i 0) same

  -- it has a call pending where that isn't zero
  pub waits-word : waits (turns_in ws) d ≡ not (eqb (get_or ws (block_at d) 0) 0)
  unfolding waits turns_in count
  waits-word =
      ap (λ (k : ℕ). not (eqb k 0)) (pending-length (block ws d) block-length ∙ ap (λ (w : ℕ). min w most_pending) block-first)
      ∙ ap not (small (get_or ws (block_at d) 0))
    where
      small : (w : ℕ) → eqb (min w most_pending) 0 ≡ eqb w 0
      small zero = refl
      small (suc w) = ne_eqb (min (suc w) most_pending) 0 (λ z. omega arith) ∙ sym (ne_eqb (suc w) 0 (λ z. omega arith))

-- a domain before the place is passed over
pub before-place : (place d : ℕ) (b : Bool) → d < place → false ≡ (leb place d && b)
before-place place d b h = rw (lt-leb _ _ h)

-- a domain's words, stored where they were
pub block_same : (ws : List ℕ) (d : ℕ) → set_block ws d (block ws d) ≡ ws
unfolding block set_block
block_same ws d = put_same (block_at d) block_length ws

pub set-block-length : (ws b : List ℕ) (d : ℕ) → length b ≡ length (block ws d) → length (set_block ws d b) ≡ length ws
unfolding block set_block
set-block-length ws b d h = same_len_mid (block_at d) block_length ws b h

-- ---- words that are there, or not

module _ (ws : List ℕ) (d : ℕ) where
  -- all of them are
  pub block-there : block_at d + block_length ≤ length ws → length (block ws d) ≡ block_length
  unfolding block
  block-there h = length-take-le block_length (drop (block_at d) ws) (omega (arith, length-drop (block_at d) ws, h))

  -- the first word of the oldest call, by its place
  pub first-word : block_at d + block_length ≤ length ws → get_or ws (block_at d + 1) 0 ≡ first_of_oldest (block ws d)
  unfolding first_of_oldest block
  first-word h =
      sym
      (ap (λ (b : Bool). cond b (get_or (take block_length (drop (block_at d) ws)) 1 0) 0) (eq-eqb _ _ (block-there h))
      ∙ get_or-take block_length (drop (block_at d) ws) 1 0 (omega arith)
      ∙ get_or-drop (block_at d) ws 1 0)

  -- not all: nothing is pending, there is no room, and nothing can be removed
  module _ (h : length ws < block_at d + block_length) where
    short : eqb (length (block ws d)) block_length ≡ false
    unfolding block
    short =
        ne_eqb (length (block ws d)) block_length
        (λ same. omega (arith, same, length-take block_length (drop (block_at d) ws), length-drop (block_at d) ws, h))

    pub short-first : 0 ≡ first_of_oldest (block ws d)
    unfolding first_of_oldest
    short-first = rw short

    pub short-second : None ≡ second_of_oldest (block ws d)
    unfolding second_of_oldest
    short-second = rw short

    pub short-added : (vs : List ℕ) → (false ≡ enqueuable (block ws d) (length vs)) × (ws ≡ added_to ws d vs)
    unfolding enqueuable added_to
    short-added vs = rw short (refl, refl)

    pub short-removed : (few : ℕ) → (false ≡ dequeuable (block ws d) few) × (ws ≡ removed_from ws d few)
    unfolding dequeuable removed_from
    short-removed few = rw short (refl, refl)

  -- what adding and removing leave
  pub added_none : (vs : List ℕ) → enqueuable (block ws d) (length vs) ≡ false → added_to ws d vs ≡ ws
  unfolding added_to
  added_none vs h = rw h

  pub added-there : (vs : List ℕ) → enqueuable (block ws d) (length vs) ≡ true → added_to ws d vs ≡ state_handed_in ws d vs
  unfolding added_to
  added-there vs h = rw h

  pub added_is : (vs : List ℕ) → set_block ws d (left_by_enqueue (block ws d) vs) ≡ added_to ws d vs
  unfolding added_to state_handed_in left_by_enqueue
  added_is vs = go (enqueuable (block ws d) (length vs))
    where
      go : (x : Bool) → set_block ws d (cond x (enqueued (block ws d) vs) (block ws d)) ≡ cond x (set_block ws d (enqueued (block ws d) vs)) ws
      go true = refl
      go false = block_same ws d

  module _ (few : ℕ) where
    pub removed-none : dequeuable (block ws d) few ≡ false → set_block ws d (left_by_dequeue (block ws d) few) ≡ removed_from ws d few
    unfolding removed_from
    removed-none h = rw h (ap (set_block ws d) (sym (not-dequeued (block ws d) few h)) ∙ block_same ws d)

    pub removed-is : dequeuable (block ws d) few ≡ true → set (set_block ws d (left_by_dequeue (block ws d) few)) 0 (d + 1) ≡ removed_from ws d few
    unfolding removed_from state_served
    removed-is h = rw h (ap (λ (b : List ℕ). set (set_block ws d b) 0 (d + 1)) (sym (dequeued-there (block ws d) few h)))

    pub removed-there : dequeuable (block ws d) few ≡ true → removed_from ws d few ≡ state_served ws d few
    unfolding removed_from
    removed-there h = rw h
