-- The decision of the code as the machine's (document 01, 'Where each number is checked').
use Rattle.std.specs.Prelude.{Result, Ok, Err}
use Rattle.machine.specs.Machine as machine
use Rattle.calls.specs.Number.{number_of}
use Rattle.calls.specs.declared.Refusal.{Refusal}
use Rattle.rules.specs.declared.Decision.{Decision}
use Rattle.rules.specs.declared.Decision.TheVariants.{Sends, Receives, Grants, Removes, Revokes}

abbrev pub decision_of : Result Decision Refusal → machine.Decision
decision_of (Err r) = machine.refused (number_of r)
decision_of (Ok (Sends e message)) = machine.sends e message
decision_of (Ok (Receives e)) = machine.receives e
decision_of (Ok (Grants g h r)) = machine.grants g h r
decision_of (Ok (Removes g u r)) = machine.removes g u r
decision_of (Ok (Revokes g h r)) = machine.revokes g h r
