-- Claims about the words that a run left. The calls cs were run from the table t, and left the table end and the answer space
-- space_after: three words for each call and perhaps others after them. Each claim is a field of the kernel's contract
-- (specs/Promise). That the machine's own runs meet it is in specs/MachineClaims.
use Rattle.std.specs.Prelude.{ℕ, ◌+◌, ◌*◌, ◌<◌, ◌^◌, min, ◌≡◌, true, ◌⊎◌, List, [], ◌∷◌, ◌++◌, map, length, take, drop}
use Rattle.machine.specs.Right.{holds}
use Rattle.machine.specs.Table.{domains, rights, endpoint}
use Rattle.machine.specs.Queue.{waiting, lost, most_lost}
use Rattle.machine.specs.Call.{Call}
use Rattle.machine.specs.Machine.{Decision.refused, decide, step, answer_word}
use Rattle.machine.specs.Run as machine
use Rattle.machine.specs.Purge.{purge, view}
use Rattle.machine.specs.Counts.{sent_to, received_from, full_sends, messages_from, messages_to, message_of, taken_of, count_pushed, gone, messages}
use Rattle.machine.specs.Trail.{GivenAlong}

-- The call c is refused by n, where the calls before ran ahead of it and the calls later follow: no table word is altered, its
-- three answer words are its number and two zeros, and the table at the end is that of a run without it.
pub record RefusedHere (t : List ℕ) (before : List Call) (c : Call) (later : List Call) (n : ℕ) (space_after end : List ℕ) : Type 0 where
  pub table : step (machine.run t before) c ≡ machine.run t before
  pub answer : take 3 (drop (3 * length before) space_after) ≡ answer_word c n ∷ 0 ∷ 0 ∷ []
  pub without : end ≡ machine.run t (before ++ later)

-- A refusal changes nothing, wherever in the list the call is.
abbrev pub RefusalChangesNothing : List ℕ → List Call → List ℕ → List ℕ → Type 0
RefusalChangesNothing t cs space_after end =
    (before : List Call) (c : Call) (later : List Call) (n : ℕ)
    → cs ≡ before ++ (c ∷ later)
    → decide (machine.run t before) c ≡ refused n
    → RefusedHere t before c later n space_after end

-- Noninterference (specs/Purge): for every domain d, what d sees of the run is what it sees of the machine run on the kept
-- calls alone, from the same table.
abbrev pub Noninterference : List ℕ → List Call → List ℕ → List ℕ → Type 0
Noninterference t cs space_after end =
    (d : ℕ)
    → d < domains t
    → view d cs space_after end
    ≡ view d (purge t cs d) (machine.answers t (purge t cs d)) (machine.run t (purge t cs d))

-- Every right has a source: a single right that h has on g at the end it had at the start, or one of the calls gave it.
abbrev pub RightsProvenance : List ℕ → List Call → List ℕ → Type 0
RightsProvenance t cs end =
    (h g k : ℕ)
    → h < domains t
    → g < domains t
    → holds (rights end h g) (2 ^ k) ≡ true
    → (holds (rights t h g) (2 ^ k) ≡ true) ⊎ GivenAlong h g (2 ^ k) t cs

-- The counts of the endpoint e are conserved: the sends answered 0 and what waited at the start are what was received, what
-- found the queue full and what waits at the end. The lost count rose by those that found it full, up to its largest.
pub record CountsConserved (e : ℕ) (t : List ℕ) (cs : List Call) (space_after end : List ℕ) : Type 0 where
  pub balance : sent_to e cs space_after + waiting (endpoint t e) ≡ received_from e cs space_after + full_sends e t cs + waiting (endpoint end e)
  pub raised : lost (endpoint end e) ≡ min (lost (endpoint t e) + full_sends e t cs) most_lost

-- FIFO order: what left the queue of the endpoint e by its front, received or pushed out, followed by what waits at the end,
-- is what waited at the start, followed by everything that was sent, in order. Those received are the ones that the answers
-- showed. As many were pushed out as the lost count rose, up to its largest.
pub record FifoOrder (e : ℕ) (t : List ℕ) (cs : List Call) (space_after end : List ℕ) : Type 0 where
  pub order : map message_of (gone e t cs) ++ messages (endpoint end e) ≡ messages (endpoint t e) ++ messages_to e cs space_after
  pub received : messages_from e cs space_after ≡ taken_of (gone e t cs)
  pub pushed_out : lost (endpoint end e) ≡ min (lost (endpoint t e) + count_pushed (gone e t cs)) most_lost
