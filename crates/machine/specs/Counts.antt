-- What the fourth line of the checklist counts, and the messages of a queue in their order.
-- Sent and received are determined by calls and their answers alone, three words for each call and perhaps others after them.
-- Which sends found the queue full, and what left it by its front, is determined by the run's tables.
use Rattle.std.specs.Prelude.{ℕ, ◌+◌, Bool, cond, not, ◌&&◌, List, [], ◌∷◌, map, get_or, take, drop, eqb}
use Rattle.machine.specs.Word.{payload, field_b, answer_code}
use Rattle.machine.specs.Table.{endpoint}
use Rattle.machine.specs.Queue.{waiting, oldest, has_space}
use Rattle.machine.specs.Call.{Call, Kind, Kind.send, Kind.receive, first, call_kind, one_of, second_payload}
use Rattle.machine.specs.Machine.{step, answer}

-- a kind is that of a send
unfoldable pub is_send : Kind → Bool
is_send k = one_of k (send ∷ [])

-- a kind is that of a receive
unfoldable pub is_receive : Kind → Bool
is_receive k = one_of k (receive ∷ [])

-- a call of a kind that passes a test, on the endpoint e, answered 0 by the first of the answers
unfoldable pub done_on : (Kind → Bool) → ℕ → Call → List ℕ → Bool
done_on is e c answers = is (call_kind c) && eqb (field_b (first c)) e && eqb (answer_code (get_or answers 0 0)) 0

-- how many calls of such a kind on e were answered 0
unfoldable pub count_done : (Kind → Bool) → ℕ → List Call → List ℕ → ℕ
count_done is e [] answers = 0
count_done is e (c ∷ cs) answers = cond (done_on is e c answers) 1 0 + count_done is e cs (drop 3 answers)

-- sends to e answered 0
abbrev pub sent_to : ℕ → List Call → List ℕ → ℕ
sent_to e cs answers = count_done is_send e cs answers

-- messages received from e
abbrev pub received_from : ℕ → List Call → List ℕ → ℕ
received_from e cs answers = count_done is_receive e cs answers

-- the messages received from e, in order: the first data word of each
unfoldable pub messages_from : ℕ → List Call → List ℕ → List ℕ
messages_from e [] answers = []
messages_from e (c ∷ cs) answers =
    let rest = messages_from e cs (drop 3 answers) in
    cond (done_on is_receive e c answers) (get_or answers 1 0 ∷ rest) rest

-- the messages sent to e, in order: that of each send answered 0
unfoldable pub messages_to : ℕ → List Call → List ℕ → List ℕ
messages_to e [] answers = []
messages_to e (c ∷ cs) answers =
    let rest = messages_to e cs (drop 3 answers) in
    cond (done_on is_send e c answers) (second_payload c ∷ rest) rest

-- a call that is a send to e, answered 0, run on the table t
unfoldable pub sends_to : ℕ → List ℕ → Call → Bool
sends_to e t c = done_on is_send e c (answer t c)

-- and one that is a receive from e
unfoldable pub receives_from : ℕ → List ℕ → Call → Bool
receives_from e t c = done_on is_receive e c (answer t c)

-- a send to e, answered 0, that finds the queue full and so pushes out its oldest message
unfoldable pub pushes_out : ℕ → List ℕ → Call → Bool
pushes_out e t c = sends_to e t c && not (has_space (endpoint t e))

-- how many sends to e, answered 0, found the queue full
unfoldable pub full_sends : ℕ → List ℕ → List Call → ℕ
full_sends e t [] = 0
full_sends e t (c ∷ cs) = cond (pushes_out e t c) 1 0 + full_sends e (step t c) cs

-- A message that left a queue by its front: a receive returned it, or a send to the full queue pushed it out.
pub data Gone : Type 0 where
  taken : (message : ℕ) → Gone
  pushed : (message : ℕ) → Gone

-- the message, either way
unfoldable pub message_of : Gone → ℕ
message_of (taken m) = m
message_of (pushed m) = m

-- those that receives returned, in order
unfoldable pub taken_of : List Gone → List ℕ
taken_of [] = []
taken_of (taken m ∷ out) = m ∷ taken_of out
taken_of (pushed m ∷ out) = taken_of out

-- how many were pushed out
unfoldable pub count_pushed : List Gone → ℕ
count_pushed [] = 0
count_pushed (taken m ∷ out) = count_pushed out
count_pushed (pushed m ∷ out) = 1 + count_pushed out

-- what left e's queue by its front, in order: at each receive and at each send that found it full, its oldest message then
unfoldable pub gone : ℕ → List ℕ → List Call → List Gone
gone e t [] = []
gone e t (c ∷ cs) =
    let later = gone e (step t c) cs in
    cond (pushes_out e t c) (pushed (oldest (endpoint t e)) ∷ later)
    (cond (receives_from e t c) (taken (oldest (endpoint t e)) ∷ later) later)

-- the messages that wait in an endpoint's twelve words, oldest first
unfoldable pub messages : List ℕ → List ℕ
messages q = map payload (take (waiting q) (drop 4 q))
