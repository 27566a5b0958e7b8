-- `load` meets its contract: the first four words, then the places one after the other. Assumes nothing.
use Rattle.std.proofs.Common.{◌≡◌, ◌+◌, ◌-◌, ◌<◌, ◌≤◌, length, get_or, take, drop, refl, ap, arith, length-set, length-take, length-drop, get_or-take, get_or-drop}
use Rattle.machine.specs.Word.{payload}
use Rattle.machine.specs.Queue.{waiting, lost}
use Rattle.ring_theory.specs.Ring.{ring_of}
use Rattle.ring_theory.proofs.Filled.{fill_start, fill-next, behind-four}
use Rattle.ring.proofs.Words.{of-twelve}
use Rattle.ring.proofs.load.Goals as goal

pub loop-i-init : goal.loop-i-init
loop-i-init c = fill_start _ _ _ (simp length-set c.if-ring-ne-ENDPOINT_WORDS.false) refl

pub loop-i-preserved : goal.loop-i-preserved
loop-i-preserved c =
    let q = c.args.q.now in
    let i = c.loop-i.i in
    let inside : i < length q - 4 = omega (arith, simp (length-take, length-drop) at c.loop-i-test.true) in
    let slot : get_or (take (length q - 4) (drop 4 q)) i 0 ≡ get_or q (4 + i) 0 = rw (get_or-take, get_or-drop) in
    fill-next _ _ _ i _ c.loop-i.invariant (omega arith) (ap payload slot)

pub returns : goal.returns
unfolding ring_of waiting lost
returns c =
    let long = c.if-ring-ne-ENDPOINT_WORDS.false in
    let all : 8 ≤ c.loop-i.i = omega (arith, simp (length-take, length-drop) at c.loop-i-test.false) in
    of-twelve _ _ _ c.if-q-ne-ENDPOINT_WORDS.false
    (of-twelve _ _ _ long (behind-four _ c.args.ring.now _ _ long all _ _ _ _ c.loop-i.invariant))
