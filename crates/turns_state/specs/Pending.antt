-- A domain's seventeen words (document 02 (m)): the count of its pending words and sixteen words, of which the first so many are
-- pending, oldest first. For arbitrary words: what is pending in them, and what they are after others are appended and after the
-- first are removed.
use Rattle.std.specs.Prelude.{ℕ, ◌+◌, ◌-◌, ◌≤◌, min, ◌≡◌, Bool, cond, ◌&&◌, List, ◌∷◌, ◌++◌, eqb, leb, length, get_or, take, drop, Option, None}
use Rattle.calls.specs.Split.{second_at}
use Rattle.turns_theory.specs.Turns.{most_pending}

-- how many words a domain has in the state
abbrev pub block_length : ℕ
block_length = 17

-- how many of them are pending: the first word is the count, and one above 16 is read as 16
unfoldable pub count : List ℕ → ℕ
count b = min (get_or b 0 0) most_pending

-- the pending words; those after them don't count
unfoldable pub pending_in : List ℕ → List ℕ
pending_in b = take (count b) (drop 1 b)

-- the words are seventeen, with room for so many more
unfoldable pub enqueuable : List ℕ → ℕ → Bool
enqueuable b more = eqb (length b) block_length && leb (count b + more) most_pending

-- the words vs are appended to those that are pending
unfoldable pub enqueued : List ℕ → List ℕ → List ℕ
enqueued b vs = (count b + length vs) ∷ (pending_in b ++ (vs ++ drop (1 + count b + length vs) b))

unfoldable pub left_by_enqueue : List ℕ → List ℕ → List ℕ
left_by_enqueue b vs = cond (enqueuable b (length vs)) (enqueued b vs) b

-- the second word of the oldest pending call, if it has one
unfoldable pub second_of_oldest : List ℕ → Option ℕ
second_of_oldest b = cond (eqb (length b) block_length) (second_at (pending_in b) 0) None

-- the words are seventeen, and at least so many are pending
unfoldable pub dequeuable : List ℕ → ℕ → Bool
dequeuable b few = eqb (length b) block_length && leb few (count b)

-- the first so many are removed and the pending ones after them move to the front; words from the count that is left on stay
unfoldable pub dequeued : List ℕ → ℕ → List ℕ
dequeued b few = (count b - few) ∷ (drop few (pending_in b) ++ drop (1 + (count b - few)) b)

unfoldable pub left_by_dequeue : List ℕ → ℕ → List ℕ
left_by_dequeue b few = cond (dequeuable b few) (dequeued b few) b

-- the preconditions of `put_last` and `move_down`
pub record MayEnqueue (b : List ℕ) (more : ℕ) : Type 0 where
  pub size : length b ≡ block_length
  pub room : count b + more ≤ most_pending

pub record MayDequeue (b : List ℕ) (few : ℕ) : Type 0 where
  pub size : length b ≡ block_length
  pub there : few ≤ count b
