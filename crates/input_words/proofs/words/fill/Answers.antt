-- The first i words are at the front.
use Rattle.std.proofs.Common.{◌<◌, ◌/◌, sym, ◌∙◌, length, arith}
use Rattle.input_words.specs.Bytes.{words_of}
use Rattle.text.proofs.WriteLaws.{overwrite-none, write-next, write-all}
use Rattle.input_words.proofs.WordLaws.{length-words_of, get_d-words_of}
use Rattle.input_words.proofs.words.fill.Goals as goal

pub loop-i-init : goal.loop-i-init
loop-i-init c = sym (overwrite-none 0 _)

pub loop-i-preserved : goal.loop-i-preserved
loop-i-preserved c =
    let bytes = c.args.bytes.now in
    let i = c.loop-i.i in
    let more : i < length bytes / 4 = omega arith in
    write-next 0 i (words_of bytes) c.args.words.now c.loop-i.invariant
    (omega (arith, length-words_of bytes)) (omega arith) (c.word.ensures ∙ sym (get_d-words_of i bytes more))

pub returns : goal.returns
returns c =
    let bytes = c.args.bytes.now in
    let all = length-words_of bytes in
    record {
      count-is = omega arith;
      items-are = c.loop-i.invariant ∙ write-all 0 c.loop-i.i (words_of bytes) c.args.words.now (omega arith);
    }
