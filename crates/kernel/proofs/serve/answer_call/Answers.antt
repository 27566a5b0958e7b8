-- `serve::answer_call` meets its contract: the machine answers the same, and the holders stay the table's. Assumes nothing.
use Rattle.kernel.proofs.OutcomeLaws.{served}
use Rattle.kernel.proofs.serve.answer_call.Goals as goal

pub returns : goal.returns
returns c = served _ _ c.requires.accepted c.requires.same_holders _ _ _ _ _ _ c.serve-outcome.ensures c.answer.ensures
