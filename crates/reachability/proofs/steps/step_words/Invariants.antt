-- `steps::step_words` meets its contract: the words of the domains passed are there. Assumes nothing.
use Rattle.std.proofs.Common.{◌≡◌, length, take}
use Rattle.machine.specs.Below.{words_below, bits_below}
use Rattle.reachability.proofs.steps.step_words.Given as goal

abbrev pub invariant-loop-v : goal.invariant-loop-v
invariant-loop-v g l =
    (length l.words ≡ 16)
    × (take l.v l.words ≡ words_below l.v (λ v. bits_below l.few (λ u. g.S.Steps.has l.steps u v)))
