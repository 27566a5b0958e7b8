-- `domain::is_call_of` is the specification's `is_call_of`. Assumes nothing.
use mathlib.Core.Path.{refl}
use Rattle.turns_state.proofs.Words.{stray-of-none, call-of-caller}
use Rattle.turns_state.proofs.domain.is_call_of.Goals as goal

pub returns-then-kind-eq-KIND_SECOND : goal.returns-then-kind-eq-KIND_SECOND
returns-then-kind-eq-KIND_SECOND c = stray-of-none c.args.first c.args.domain c.if-kind-eq-KIND_SECOND.true

pub returns : goal.returns
returns c = call-of-caller c.args.first c.args.domain _ c.if-kind-eq-KIND_SECOND.false refl
