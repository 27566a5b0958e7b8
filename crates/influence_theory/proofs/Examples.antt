-- The rows of those that could influence a domain hold, each by computation (specs/Examples). Assumes nothing.
use mathlib.Core.Path.{◌≡◌, refl, ap}
use mathlib.Core.List.{map}
use Prim.Native.Nat.{ℕ}
use native.Mathlib.Omega.{arith}
use lib.ListN.{get_or}
use Rattle.machine.specs.Below.{numbers_below, words_below, bits_below, has_bit}
use Rattle.machine.specs.Call.{split}
use Rattle.machine.specs.DomainSet.{from_group}
use Rattle.machine.specs.Purge.{View}
use Rattle.machine.specs.PurgeExamples.{bits_of, sets_at, purged, EveryPurgeRow}
use Rattle.machine.proofs.Everything.{everything}
use Rattle.reachability.specs.Closure.{with_words, widened, rounds, closed}
use Rattle.reachability.specs.Chain.{link_words}
use Rattle.isolation_theory.specs.Component.{calls_from}
use Rattle.potential_theory.specs.Closure as closure
use Rattle.potential_theory.specs.Lists as grants
use Rattle.influence_theory.specs.Influence.{could_reach, could_influence}
use Rattle.influence_theory.specs.Lists.{ask_word, ask_round, ask_rounds, influence_list}
use Rattle.influence_theory.specs.Examples.{chains_to, chains_along, EveryInfluenceRow}
use Rattle.influence_theory.specs.Examples.{five_domains, six_calls, influence_rows, six_call_rows}
use Rattle.influence_theory.specs.Examples.{chained_along, ChainsAreNotEnough}

pub every-influence-row : EveryInfluenceRow influence_rows
unfolding everything numbers_below words_below bits_below has_bit with_words widened rounds closed link_words
    closure.cell closure.matrix_of closure.steps_below closure.granted_on closure.granted_to closure.granted_by closure.round closure.total
    closure.settled closure.potential closure.potential_rights
    grants.grant_word grants.calls_below grants.calls_on grants.calls_to grants.calls_by grants.round_calls grants.settled_calls
    grants.potential_list
    could_reach could_influence ask_word ask_round ask_rounds influence_list chains_to chains_along
every-influence-row = (refl, (refl, (refl, (refl, (refl, (refl, (refl, (refl, (refl, (refl, (refl, (refl, tt))))))))))))

pub every-six-call-row : EveryPurgeRow six_call_rows
unfolding everything words_below bits_of sets_at purged
every-six-call-row = (refl, (refl, tt))

-- the waiting word of the first queue that a view shows
waits : View → ℕ
waits v = get_or (map (λ q. get_or q.1 0 0) v.queues) 0 0

pub chains-are-not-enough : ChainsAreNotEnough
unfolding everything words_below bits_below has_bit from_group with_words widened rounds closed link_words calls_from chains_to chained_along waits
chains-are-not-enough rule =
    let same = rule five_domains (split six_calls) 4 refl (omega arith) in
    let waiting : ◌≡◌ {A = ℕ} 0x5000_0001 0x5000_0000 = ap waits same in
    omega arith
