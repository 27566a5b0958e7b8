-- `steps::step_words` meets its contract: the words of the domains passed are there. Assumes nothing.
use Rattle.std.proofs.Common.{◌≡◌, ◌+◌, take, refl, arith, ap, subst, ◌∙◌, slice_set, length-set}
use Rattle.machine.specs.Below.{words_below, bits_below}
use Rattle.reachability.specs.Chain.{link_words}
use Rattle.reachability.proofs.Words.{words_next}
use Rattle.reachability.proofs.steps.step_words.Goals as goal

pub loop-v-init : goal.loop-v-init
unfolding words_below
loop-v-init g c = (refl, refl)

pub loop-v-preserved : goal.loop-v-preserved
loop-v-preserved g c =
    let inv = c.loop-v.invariant in (
      simp length-set inv.0,
      ap (λ w. take (c.loop-v.v + 1) (slice_set c.loop-v.words c.loop-v.v w)) c.step_word.ensures
          ∙ words_next _ c.loop-v.words c.loop-v.v (omega arith) inv.1,
    )

pub returns : goal.returns
unfolding link_words
returns g c =
    let all : c.loop-v.v ≡ c.min-few.result = omega arith in
    subst (λ k. take k c.loop-v.words ≡ words_below k (λ v. bits_below k (λ u. g.S.Steps.has c.args.steps.now u v))) c.min-few.ensures
    (subst (λ k. take k c.loop-v.words ≡ words_below k (λ v. bits_below c.min-few.result (λ u. g.S.Steps.has c.args.steps.now u v))) all c.loop-v.invariant.1)
