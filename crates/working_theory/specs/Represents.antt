-- When a working state represents a table (document 02 (l)), and what is claimed of it: a call on the state simulates the call on
-- the table.
use Rattle.std.specs.Prelude.{ℕ, Option, ◌*◌, ◌<◌, ◌≡◌, List, length, get_or}
use Rattle.machine.specs.Table as machine
use Rattle.machine.specs.Table.{endpoint}
use Rattle.machine.specs.Queue.{name}
use Rattle.machine.specs.Check.{Accepted}
use Rattle.machine.specs.Machine.{owned_bits, decide, step, answer}
use Rattle.machine.specs.Holders.{holders_of}
use Rattle.calls.specs.Split.{call_of}
use Rattle.calls.specs.Decode.{decoded}
use Rattle.rules.specs.Access.{decided_by}
use Rattle.holders.specs.Noted.{holders_after}
use Rattle.rights_matrix.specs.Claims.{SameRights}
use Rattle.ring.specs.Claims.{RepresentsQueue}
use Rattle.working_theory.specs.State.{ring_at, named_in, reading_from, answer_from, effect_from, rows_after, rings_after}

-- The state represents the table t of n domains and m endpoints: the rows represent its rights, each ring its endpoint's queue, the
-- names are those of the endpoints, and the bits are what each domain owns.
pub record Represents (n m : ℕ) (rows : List (List ℕ)) (rings names owned t : List ℕ) : Type 0 where
  pub domains : n ≡ machine.domains t
  pub endpoints : m ≡ machine.endpoints t
  pub rights : SameRights n rows t
  pub size : length rings ≡ 12 * m
  pub queues : (e : ℕ) → e < m → RepresentsQueue (ring_at rings e) (endpoint t e)
  pub same_names : (e : ℕ) → e < m → get_or names e 0 ≡ name (endpoint t e)
  pub same_owned : (u : ℕ) → u < n → get_or owned u 0 ≡ owned_bits t u

-- A call of the first word w and the second s, on a state, whatever the hints for its names, and on the table t: the decision is
-- the same, the answer is the same, what it leaves represents the table after it, and noting its effect makes of the table's
-- holders those of the table after it.
pub record Simulates (w : ℕ) (s : Option ℕ) (n m : ℕ) (rows : List (List ℕ)) (rings names hints owned t : List ℕ) : Type 0 where
  pub decided : decided_by n m (reading_from rows rings (named_in m names hints)) (decoded w s) ≡ decide t (call_of w s)
  pub answer : answer_from w rows rings owned (decide t (call_of w s)) ≡ answer t (call_of w s)
  pub state :
      Represents n m (rows_after rows (effect_from rows rings (decide t (call_of w s))))
      (rings_after rings (effect_from rows rings (decide t (call_of w s))))
      names
      owned
      (step t (call_of w s))
  pub holders : holders_after (holders_of t) (effect_from rows rings (decide t (call_of w s))) ≡ holders_of (step t (call_of w s))

-- on a state that represents an accepted table, every call simulates the call on the table
abbrev pub CallsSimulate : Type 0
CallsSimulate =
    (w : ℕ) (s : Option ℕ) (n m : ℕ) (rows : List (List ℕ)) (rings names hints owned t : List ℕ)
    → Accepted t
    → Represents n m rows rings names owned t
    → Simulates w s n m rows rings names hints owned t
