-- What is claimed of the words that calls are written in: they are read back as the calls, no two lists of calls are written
-- in the same words, and what was read is written as it came (document 02, (c)).
use Rattle.std.specs.Prelude.{ℕ, Some, None, ◌≡◌, Bool, true, not, ◌&&◌, ◌||◌, List, [], ◌∷◌, map, eqb}
use Rattle.machine.specs.Call as machine
use Rattle.calls.specs.Number.{number_of}
use Rattle.calls.specs.Decode.{decoded}
use Rattle.calls.specs.declared.Call.{Call}
use Rattle.calls.specs.declared.Call.TheVariants.{LookUp, Send, Receive, MyEndpoints, MyRights, Grant, Remove, Revoke, Refused}
use Rattle.writer_theory.specs.Words.{all_fit, written}

-- a call of one or two words, decoded
unfoldable pub decoded_calls : machine.Call → Call
decoded_calls (machine.one w) = decoded w None
decoded_calls (machine.two w v) = decoded w (Some v)

-- what the reader makes of a list of words: the list is split, and each call is decoded
unfoldable pub read_from : List ℕ → List Call
read_from ws = map decoded_calls (machine.split ws)

-- a code of the four places that need no table
unfoldable pub of_the_four : ℕ → Bool
of_the_four n = eqb n 10 || eqb n 11 || eqb n 13 || eqb n 14

-- a call isn't refused by one of the four
unfoldable pub past : Call → Bool
past (Refused u r) = not (of_the_four (number_of r))
past (LookUp u x) = true
past (Send u e m) = true
past (Receive u e) = true
past (MyEndpoints u) = true
past (MyRights u) = true
past (Grant u g h r) = true
past (Remove u g r) = true
past (Revoke u g h r) = true

-- none of a list of calls is
unfoldable pub all_past : List Call → Bool
all_past [] = true
all_past (c ∷ cs) = past c && all_past cs

-- Calls that can be written are read back: decoding their words gives the calls.
abbrev pub ReadsBack : Type 0
ReadsBack = (cs : List Call) → all_fit cs ≡ true → read_from (written cs) ≡ cs

-- Two different lists of calls are never written in the same words.
abbrev pub DifferentWords : Type 0
DifferentWords = (cs ds : List Call) → all_fit cs ≡ true → all_fit ds ≡ true → written cs ≡ written ds → cs ≡ ds

-- A list that is read as calls past the four can be written, and is written as it came.
abbrev pub WritesBack : Type 0
WritesBack = (ws : List ℕ) → all_past (read_from ws) ≡ true → (all_fit (read_from ws) ≡ true) × (written (read_from ws) ≡ ws)

-- What is written, the reader takes past the four.
abbrev pub TakenByReader : Type 0
TakenByReader = (cs : List Call) → all_fit cs ≡ true → all_past (read_from (written cs)) ≡ true
