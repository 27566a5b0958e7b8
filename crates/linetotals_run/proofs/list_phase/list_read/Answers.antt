-- `list_phase::list_read` meets its contract: what the parts that it lends become is what the step says. Assumes nothing.
use Rattle.std.proofs.Common.{◌≡◌, ◌∙◌, ℕ, ◌-◌, ◌*◌, ◌≤◌, length, take, drop, ap, length-take, length-drop, arith}
use native.Mathlib.Nat.{sub-zero}
use lib.Seq.{take_all}
use Rattle.text.proofs.WriteLaws.{fills-part}
use Rattle.input_words.specs.Bytes.{words_of}
use Rattle.input_words.proofs.WordLaws.{length-words_of}
use Rattle.linetotals_run.specs.Step.{State, list_ran}
use Rattle.linetotals_run.proofs.StepLaws.{list_left}
use Rattle.linetotals_run.proofs.list_phase.list_read.Goals as goal

pub returns : goal.returns
returns c =
    let x : State = record { stage = c.args.stage; table = c.args.table.now; list = c.args.list.now; answers = c.args.answers.now; holders = c.args.holders.now } in
    let end = 4 * c.args.n in
    let bytes = c.args.bytes.now in
    let all : end ≤ length bytes = c.if-bytes-end.false in
    let filled = rw (sub-zero end) at c.fill-listed.ensures in
    let few : length (words_of (take end bytes)) ≤ length x.list = omega (arith, length-words_of (take end bytes), length-take end bytes) in
    let head : take (length bytes - end) (drop end bytes) ≡ drop end bytes = take_all (length bytes - end) (drop end bytes) (omega (arith, length-drop end bytes)) in
    rw (sub-zero c.args.stage.counts.words, sub-zero c.min-lent.result)
    (list_left x c.args.n bytes all (fills-part few filled) (ap (λ (k : ℕ). take k x.table) (sub-zero c.args.stage.counts.words)) (rw (← c.domains.ensures) c.min-lent.ensures)
    (ap (λ (k : ℕ). take k x.holders) (sub-zero c.min-lent.result))
    c.add_list-ran.ensures (c.list_ran.ensures ∙ ap (list_ran x.stage _ c.add_list-ran.new.self) head) filled.items-are)
