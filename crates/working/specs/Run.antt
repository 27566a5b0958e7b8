-- What the calls of a list leave of a working state (document 02 (l)).
use Rattle.std.specs.Prelude.{ℕ, ◌≡◌, List}
use Rattle.machine.specs.Check.{Accepted}
use Rattle.machine.specs.Holders.{holders_of}
use Rattle.machine.specs.SameParts.{SameFrame}
use Rattle.kernel.specs.Run.{AllRun}
use Rattle.working_theory.specs.Represents.{Represents}

-- A working state with the holders beside it: how many domains and endpoints there are, the rights as rows, the queues as rings, the
-- endpoints' names, and what each domain owns.
pub record WorkingState : Type 0 where
  pub n : ℕ
  pub m : ℕ
  pub rows : List (List ℕ)
  pub rings : List ℕ
  pub names : List ℕ
  pub owned : List ℕ
  pub holders : List ℕ

abbrev pub working : ℕ → ℕ → List (List ℕ) → List ℕ → List ℕ → List ℕ → List ℕ → WorkingState
working n m rows rings names owned holders =
    record { n = n; m = m; rows = rows; rings = rings; names = names; owned = owned; holders = holders }

-- What the calls of a list leave: how many they were, the rows and the rings, the answers' space and the holders. The names and what
-- each domain owns are only read.
pub record ListOutcome : Type 0 where
  pub calls : ℕ
  pub rows : List (List ℕ)
  pub rings : List ℕ
  pub answers : List ℕ
  pub holders : List ℕ

abbrev pub leaves : ℕ → List (List ℕ) → List ℕ → List ℕ → List ℕ → ListOutcome
leaves calls rows rings answers holders =
    record { calls = calls; rows = rows; rings = rings; answers = answers; holders = holders }

-- the state represents the accepted table t
pub record RepresentsTable (s : WorkingState) (t : List ℕ) : Type 0 where
  pub accepted : Accepted t
  pub state : Represents s.n s.m s.rows s.rings s.names s.owned t
  pub same_holders : s.holders ≡ holders_of t

-- there is a table that it represents
pub record RepresentsSome (s : WorkingState) : Type 0 where
  pub table : List ℕ
  pub stands : RepresentsTable s table

-- The calls of the list ws ran on the state s, beside a space for answers: the outcome o is what they leave of the table t, and the
-- rows and rings represent the table at their end.
pub record Left (s : WorkingState) (t ws space : List ℕ) (o : ListOutcome) : Type 0 where
  pub end : List ℕ
  pub ran : AllRun t ws space o.calls o.answers end o.holders
  pub accepted : Accepted end
  pub frame : SameFrame end t
  pub state : Represents s.n s.m o.rows o.rings s.names s.owned end
