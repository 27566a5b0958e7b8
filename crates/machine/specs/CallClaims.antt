-- Claims about what a call requires and by which codes it is refused, in closed statements about any table. Each is the type of a
-- theorem in proofs/CallClaims.
use Rattle.std.specs.Prelude.{ℕ, ◌<◌, ◌≤◌, ◌≡◌, true, ◌⊎◌, List}
use Rattle.std.proofs.Math.Option.{some}
use Rattle.machine.specs.Right.{SEND, GRANT, REMOVE, REVOKE, holds}
use Rattle.machine.specs.Table.{domains, endpoints, rights, endpoint}
use Rattle.machine.specs.Queue.{owner, waiting}
use Rattle.machine.specs.Check.{table_code}
use Rattle.machine.specs.Call.{Call, caller_of}
use Rattle.machine.specs.Machine.{decide, Decision.refused, Decision.sends, Decision.receives, Decision.grants, Decision.removes, Decision.revokes}
use Rattle.machine.specs.Influence.{influences}
use Rattle.machine.specs.Entry.{entry_code}

-- ---- what a call requires

-- The caller of the call c is a domain of the table t, and P holds of it.
pub record OfCaller (t : List ℕ) (c : Call) (P : ℕ → Type 0) : Type 0 where
  pub u : ℕ
  pub called_by : caller_of c ≡ some u
  pub known : u < domains t
  pub may : P u

-- Of the caller u of a call that isn't refused, by what the call is:
pub record Requires (t : List ℕ) (c : Call) : Type 0 where
  -- a send: u has SEND on the endpoint's owner
  pub send : (e message : ℕ)
      → decide t c ≡ sends e message
      → (e < endpoints t) × OfCaller t c (λ u. holds (rights t u (owner (endpoint t e))) SEND ≡ true)
  -- a receive: u is the owner, and a message waits
  pub receive : (e : ℕ)
      → decide t c ≡ receives e
      → (e < endpoints t) × (1 ≤ waiting (endpoint t e)) × OfCaller t c (λ u. owner (endpoint t e) ≡ u)
  -- a grant of r on g to h: u has GRANT and every right of r on g, and is h or has a right on h
  pub grant : (g h r : ℕ)
      → decide t c ≡ grants g h r
      → OfCaller t c (λ u. (holds (rights t u g) GRANT ≡ true) × (holds (rights t u g) r ≡ true) × (influences t u h ≡ true))
  -- a remove of r on g from h's own: u is h, and has REMOVE and every right of r on g
  pub remove : (g h r : ℕ)
      → decide t c ≡ removes g h r
      → OfCaller t c (λ u. (u ≡ h) × (holds (rights t u g) REMOVE ≡ true) × (holds (rights t u g) r ≡ true))
  -- a revoke of r on g from h's: u has REVOKE on g, and is h or has a right on h
  pub revoke : (g h r : ℕ)
      → decide t c ≡ revokes g h r
      → OfCaller t c (λ u. (holds (rights t u g) REVOKE ≡ true) × (influences t u h ≡ true))

-- "17 now means that the caller has no SEND on the endpoint's owner" (document 02 (f)), 18, 22 and 23 (document 01, 'Where each
-- number is checked'), the other way round: a call that isn't refused has what they require.
abbrev pub EveryCallRequires : Type 0
EveryCallRequires = (t : List ℕ) (c : Call) → Requires t c

-- ---- the codes

-- A call is refused by a code from 10 to 23.
abbrev pub EveryRefusalCode : Type 0
EveryRefusalCode = (t : List ℕ) (c : Call) (n : ℕ) → decide t c ≡ refused n → (10 ≤ n) × (n ≤ 23)

-- A table's code is 0 or one from 2 to 5.
abbrev pub EveryTableCode : Type 0
EveryTableCode = (t : List ℕ) → (table_code t ≡ 0) ⊎ ((2 ≤ table_code t) × (table_code t ≤ 5))

-- The entry's code, of a list on a table with so many words lent for the answers and for the holders, is at most 6.
abbrev pub EveryEntryCode : Type 0
EveryEntryCode = (t ws : List ℕ) (size lent : ℕ) → entry_code t ws size lent ≤ 6
