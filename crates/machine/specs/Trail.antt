-- The calls by which a right is gained and lost (the second line of the checklist): a grant gives it, and its holder's own
-- remove or a revoke clears it. A single right is one bit of a set: 2 ^ k, SEND at k 0, GRANT at 1, REMOVE at 2, REVOKE at 3.
use Rattle.std.specs.Prelude.{ℕ, ◌<◌, ◌≡◌, true, List, ◌∷◌, ◌++◌}
use Rattle.std.proofs.Math.Option.{some}
use Rattle.machine.specs.Right.{GRANT, REMOVE, REVOKE, holds}
use Rattle.machine.specs.Table.{domains, rights}
use Rattle.machine.specs.Call.{Call, caller_of}
use Rattle.machine.specs.Machine.{decide, Decision.grants, Decision.removes, Decision.revokes}
use Rattle.machine.specs.Influence.{influences}
use Rattle.machine.specs.Run.{run}

-- The call c, on the table t, is an unrefused grant to h on g of rights with r among them; its caller is a domain that held r
-- and GRANT on g just before, and was h or had a right on h.
pub record GivenBy (h g r : ℕ) (t : List ℕ) (c : Call) : Type 0 where
  pub given : ℕ
  pub caller : ℕ
  pub grant : decide t c ≡ grants g h given
  pub among : holds given r ≡ true
  pub called_by : caller_of c ≡ some caller
  pub below : caller < domains t
  pub held : holds (rights t caller g) r ≡ true
  pub may_grant : holds (rights t caller g) GRANT ≡ true
  pub toward : influences t caller h ≡ true

-- One of the calls cs, run from the table t, gave the right r on g to h: GivenBy of the table just before that call.
pub record GivenAlong (h g r : ℕ) (t : List ℕ) (cs : List Call) : Type 0 where
  pub before : List Call
  pub call : Call
  pub later : List Call
  pub among : cs ≡ before ++ (call ∷ later)
  pub given : GivenBy h g r (run t before) call

-- The call c, on the table t, is an unrefused remove by h of its own rights on g with r among them, and h held REMOVE on g
-- just before.
pub record RemovedBy (h g r : ℕ) (t : List ℕ) (c : Call) : Type 0 where
  pub removed : ℕ
  pub remove : decide t c ≡ removes g h removed
  pub among : holds removed r ≡ true
  pub called_by : caller_of c ≡ some h
  pub may_remove : holds (rights t h g) REMOVE ≡ true

-- The call c, on the table t, is an unrefused revoke of h's rights on g with r among them; its caller is a domain that held REVOKE
-- on g just before, and was h or had a right on h.
pub record RevokedBy (h g r : ℕ) (t : List ℕ) (c : Call) : Type 0 where
  pub revoked : ℕ
  pub caller : ℕ
  pub revoke : decide t c ≡ revokes g h revoked
  pub among : holds revoked r ≡ true
  pub called_by : caller_of c ≡ some caller
  pub below : caller < domains t
  pub may_revoke : holds (rights t caller g) REVOKE ≡ true
  pub toward : influences t caller h ≡ true
