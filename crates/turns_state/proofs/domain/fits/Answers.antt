-- `domain::fits` meets its contract. Assumes nothing.
use mathlib.Core.Path.{ap}
use Prim.Native.Nat.{ℕ}
use lib.Dec.{eqb}
use Rattle.turns_state.specs.State.{state_length}
use Rattle.turns_state.proofs.domain.fits.Goals as goal

pub returns : goal.returns
returns c = ap (λ (n : ℕ). eqb c.args.size (state_length n)) c.domain_count-n.ensures
