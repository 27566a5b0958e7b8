-- `mend_endpoint` meets its contract: a sound queue stays, and of any other the ten words are written. Assumes nothing.
use mathlib.Core.Path.{sym, ◌∙◌}
use lib.ListN.{length-set}
use Rattle.repair_theory.proofs.Mended.{queue-kept}
use Rattle.repair.proofs.MendPasses.{slots-eight, emptied}
use Rattle.repair.proofs.mend.mend_endpoint.Goals as goal

pub returns-then-queue_ok : goal.returns-then-queue_ok
returns-then-queue_ok c = sym (queue-kept _ (sym c.queue_ok.ensures ∙ c.if-queue_ok.true))

pub returns : goal.returns
returns c =
    emptied c.args.q.now _ _ c.requires (sym c.queue_ok.ensures ∙ c.if-queue_ok.false) (c.fill.ensures.after (λ y e. e))
    (slots-eight _ (simp length-set c.requires))
