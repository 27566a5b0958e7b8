-- `connections::members` meets its contract: the closure over the words of the joins is the component. Assumes nothing.
use mathlib.Core.Path.{◌∙◌}
use native.Mathlib.Omega.{arith}
use Rattle.reachability.proofs.Bits.{bit_is}
use Rattle.components.proofs.Words.{component-read}
use Rattle.components.proofs.connections.members.Goals as goal

pub returns : goal.returns
returns c =
    let alone = bit_is (omega arith) c.bit.ensures in
    c.closure.ensures ∙ component-read c.args.table.now _ _ _ _ c.requires.domains c.joined_words-words.ensures alone
