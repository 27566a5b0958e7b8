-- `endpoint_ok` is the machine's `endpoint_ok` of twelve words at their places. Assumes nothing.
use mathlib.Core.Path.{ap, ap₂, ◌∙◌}
use mathlib.Core.Bool.{◌&&◌}
use Rattle.machine.specs.Check.{name_word_ok, lost_word_ok}
use Rattle.input_words.specs.Bytes.{words_of}
use Rattle.table_check_bytes.proofs.Words.{endpoint-words}
use Rattle.table_check_bytes.proofs.endpoint_ok.Goals as goal

pub returns : goal.returns
returns c =
    let w = c in
    let v = w in
    let a = v.args in
    ap₂ ◌&&◌ (ap₂ ◌&&◌ (v.name_word_ok-name.ensures ∙ ap name_word_ok v.nth_word.ensures) w.info_word_ok-info.ensures) (ap₂ ◌&&◌ (ap₂ ◌&&◌ c.waiting_word_ok-waiting.ensures (c.lost_word_ok-lost.ensures ∙ ap lost_word_ok c.nth_word-2.ensures)) c.slots_ok-slots.ensures)
    ∙ endpoint-words (words_of a.bytes.now) a.start _ _ _ v.nth_word-info_word.ensures w.nth_word-waiting_word.ensures
