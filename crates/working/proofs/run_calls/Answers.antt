-- `run_calls` meets its contract: there are words for the rings of 32 endpoints, and an accepted table has no more.
-- Assumes nothing.
use native.Mathlib.Omega.{arith}
use Rattle.machine.proofs.Accepted.{accepted-counts}
use Rattle.working.proofs.run_calls.Goals as goal

pub slice_bounds-words-end : goal.slice_bounds-words-end
slice_bounds-words-end c = omega (arith, c.endpoints.ensures, (accepted-counts _ c.requires.accepted).2)
