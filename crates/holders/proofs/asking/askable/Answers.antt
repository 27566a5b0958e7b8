-- `asking::askable` meets its contract: each test refuses by itself. Assumes nothing.
use mathlib.Core.Path.{◌∙◌}
use native.Mathlib.Omega.{arith}
use Rattle.reachability.proofs.Bits.{bit_is}
use Rattle.holders_theory.proofs.Reported.{by_bits}
use Rattle.holders.proofs.Reported.{within_is, too_many, no-domain}
use Rattle.holders.proofs.asking.askable.Goals as goal
use Rattle.holders.proofs.asking.askable.Goals.{then-words-gt-DOMAIN_PLACES-via-then-words-gt-DOMAIN_PLACES, then-words-gt-DOMAIN_PLACES-via-else-words-gt-DOMAIN_PLACES+then-words-domain}

pub returns-then-words-gt-DOMAIN_PLACES : goal.returns-then-words-gt-DOMAIN_PLACES
returns-then-words-gt-DOMAIN_PLACES c =
    elim c.then-words-gt-DOMAIN_PLACES.branch [
      | then-words-gt-DOMAIN_PLACES-via-then-words-gt-DOMAIN_PLACES w ↦ too_many _ _ w.if-words-gt-DOMAIN_PLACES.true
      | then-words-gt-DOMAIN_PLACES-via-else-words-gt-DOMAIN_PLACES+then-words-domain w ↦ no-domain _ _ (omega (arith, w.if-words-domain.true))
    ]

pub returns : goal.returns
returns c =
    let few = c.if-words-gt-DOMAIN_PLACES.false in
    within_is _ _ _ (bit_is (omega arith) c.bit.ensures) c.bits_within.ensures ∙ by_bits _ _ few (omega arith)
