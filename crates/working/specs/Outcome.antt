-- What a call on a working state is answered, and what it leaves of the state and of the holders (document 02 (l)).
use Rattle.std.specs.Prelude.{◌≡◌, List, ℕ}
use Rattle.std.proofs.Math.Option.{Option}
use Rattle.machine.specs.Machine.{Decision, Effect}
use Rattle.calls.specs.declared.Call.{Call}
use Rattle.rules.specs.Access.{decided_by}
use Rattle.holders.specs.Noted.{holders_after}
use Rattle.working_theory.specs.State.{reading_from, answer_from, effect_from, rows_after, rings_after}

-- What is read for a call: how many domains and endpoints there are, the rows, the rings, which endpoint has a name, what each domain
-- owns, and the holders.
pub record StateRead : Type 0 where
  pub n : ℕ
  pub m : ℕ
  pub rows : List (List ℕ)
  pub rings : List ℕ
  pub named : ℕ → Option ℕ
  pub owned : List ℕ
  pub holders : List ℕ

abbrev pub reads : ℕ → ℕ → List (List ℕ) → List ℕ → (ℕ → Option ℕ) → List ℕ → List ℕ → StateRead
reads n m rows rings named owned holders =
    record { n = n; m = m; rows = rows; rings = rings; named = named; owned = owned; holders = holders }

-- What a call is answered and leaves: the answer's words, the rows, the rings and the holders.
pub record CallOutcome : Type 0 where
  pub words : List ℕ
  pub rows : List (List ℕ)
  pub rings : List ℕ
  pub holders : List ℕ

abbrev pub answered : List ℕ → List (List ℕ) → List ℕ → List ℕ → CallOutcome
answered words rows rings holders = record { words = words; rows = rows; rings = rings; holders = holders }

-- the decision on a call by what the state says, and what it alters
abbrev pub decision_on : StateRead → Call → Decision
decision_on s call = decided_by s.n s.m (reading_from s.rows s.rings s.named) call

abbrev pub effect_on : StateRead → Call → Effect
effect_on s call = effect_from s.rows s.rings (decision_on s call)

-- the call, with the first word w, is answered and leaves the rows, the rings and the holders as the decision on it says
pub record StateOutcome (s : StateRead) (w : ℕ) (call : Call) (o : CallOutcome) : Type 0 where
  pub answer : o.words ≡ answer_from w s.rows s.rings s.owned (decision_on s call)
  pub rows_left : o.rows ≡ rows_after s.rows (effect_on s call)
  pub rings_left : o.rings ≡ rings_after s.rings (effect_on s call)
  pub noted : o.holders ≡ holders_after s.holders (effect_on s call)
