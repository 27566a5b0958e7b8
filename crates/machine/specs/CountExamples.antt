-- A row that pins the counts and the FIFO order of messages, of one list on table T: a refused send and a grant; sends to
-- endpoint 1, of capacity 1, and to endpoint 0, of capacity 2, some of which find the queue full; and a receive from each.
-- Worked out by hand.
use Rattle.std.specs.Prelude.{ℕ, ◌≡◌, List, [], ◌∷◌}
use Rattle.machine.specs.Table.{endpoint}
use Rattle.machine.specs.Call.{Call, split}
use Rattle.machine.specs.Run.{run, answers}
use Rattle.machine.specs.Counts.{sent_to, received_from, full_sends, messages_from, messages_to, Gone, Gone.taken, Gone.pushed, gone, messages}
use Rattle.machine.specs.Examples.{T}

-- what is counted at an endpoint over calls run from a table
pub record Counted : Type 0 where
  pub sent : ℕ
  pub received : ℕ
  pub full : ℕ
  pub inwards : List ℕ
  pub outwards : List ℕ
  pub front : List Gone
  pub left : List ℕ

-- all of it, by the definitions
unfoldable pub counted : ℕ → List ℕ → List Call → Counted
counted e t cs =
    record {
      sent = sent_to e cs (answers t cs);
      received = received_from e cs (answers t cs);
      full = full_sends e t cs;
      inwards = messages_to e cs (answers t cs);
      outwards = messages_from e cs (answers t cs);
      front = gone e t cs;
      left = messages (endpoint (run t cs) e);
    }

-- the list: domain 0 has SEND on domain 1, which owns endpoint 0, and is given SEND on domain 2, which owns endpoint 1
abbrev pub sends : List ℕ
sends =
    -- refused by 17; then the grant
    0x2000_0100 ∷ 0xF000_0004
    ∷ 0x6042_0001
    ∷ 0x2000_0100 ∷ 0xF000_0005
    ∷ 0x2000_0000 ∷ 0xF000_0001
    -- 6 pushes out 5
    ∷ 0x2000_0100 ∷ 0xF000_0006
    ∷ 0x2000_0000 ∷ 0xF000_0002
    -- 3 pushes out 1, and 7 pushes out 6
    ∷ 0x2000_0000 ∷ 0xF000_0003
    ∷ 0x2000_0100 ∷ 0xF000_0007
    -- 7 and 2 are received
    ∷ 0x3080_0100
    ∷ 0x3040_0000
    ∷ 0x2000_0000 ∷ 0xF000_0004
    -- 8 pushes out 3
    ∷ 0x2000_0000 ∷ 0xF000_0008
    ∷ []

-- the row, of endpoint 1 and of endpoint 0
abbrev pub CountRowHolds : Type 0
CountRowHolds =
    (counted 1 T (split sends)
    ≡ record {
      sent = 3;
      received = 1;
      full = 2;
      inwards = 5 ∷ 6 ∷ 7 ∷ [];
      outwards = 7 ∷ [];
      front = pushed 5 ∷ pushed 6 ∷ taken 7 ∷ [];
      left = [];
    })
    × (counted 0 T (split sends)
    ≡ record {
      sent = 5;
      received = 1;
      full = 2;
      inwards = 1 ∷ 2 ∷ 3 ∷ 4 ∷ 8 ∷ [];
      outwards = 2 ∷ [];
      front = pushed 1 ∷ taken 2 ∷ pushed 3 ∷ [];
      left = 4 ∷ 8 ∷ [];
    })
