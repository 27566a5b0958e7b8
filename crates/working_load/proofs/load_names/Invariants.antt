-- `load_names` meets its contract: the names are filled in one after the other. Assumes nothing.
use Rattle.std.proofs.Common.{◌%◌, get_or}
use Rattle.machine.specs.Word.{payload}
use Rattle.machine.specs.Table.{endpoint_at}
use Rattle.rights_matrix.proofs.Filling.{Filling}
use Rattle.working_load.proofs.load_names.Given as goal

abbrev pub invariant-loop-e : goal.invariant-loop-e
invariant-loop-e l = Filling 0 (λ f. payload (get_or l.table (endpoint_at (l.n % 256) f) 0)) l.initial.names l.names l.e
