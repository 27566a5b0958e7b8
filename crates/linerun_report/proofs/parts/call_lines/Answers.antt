-- A turn writes the line of its call, whose answer is the chunk that comes.
use Rattle.std.proofs.Common.{rules, ◌+◌, ◌-◌, ◌*◌, ◌≤◌, ◌<◌, ◌≡◌, length, take, drop, ℕ, List, [], ◌∷◌, ◌++◌, refl, sym, ◌∙◌, arith, length-append, length-take, subst}
use lib.ListN.{get_or}
use Rattle.std.specs.Iterator.Adapters.{zip_second}
use Rattle.std.specs.Slice.Iter.{chunks_exact_rest}
use Rattle.text.specs.Write.{Writes}
use Rattle.text.proofs.WriteLaws.{writes_nothing}
use Rattle.linerun_text.proofs.LineLaws.{length-call_line}
use Rattle.linerun_report.specs.Lines.{lines_from}
use Rattle.linerun_report.proofs.LineLaws.{next-line}
use Rattle.linerun_report.proofs.Chunks.{rest-is, within, word_is, line-is}
use Rattle.linerun_report.proofs.parts.call_lines.Goals as goal

pub loop-i-init : goal.loop-i-init
unfolding lines_from
loop-i-init c =
    record {
      next = search rules;
      size = search rules;
      left = search rules;
      writes = writes_nothing c.args.start c.args.out.now (omega arith);
      few = omega arith;
    }

pub bounds-answer-2 : goal.bounds-answer-2
bounds-answer-2 c = omega (arith, c.in-Some.ensures.steps, c.loop-i.invariant.size)

pub loop-i-preserved : goal.loop-i-preserved
loop-i-preserved c =
    let step = c.in-Some.ensures.steps in
    let before = c.loop-i.invariant in
    let answers = c.args.answers.now in
    let from = c.args.from in
    let k = length c.loop-i.yielded in
    let chunk = c.in-Some.answer.now in
    let most = 3 * c.args.to - 3 * from in
    let words : List ℕ = take most (drop (3 * from) answers) in
    let few : length words ≤ most = omega (arith, length-take most (drop (3 * from) answers)) in
    let more : length (c.loop-i.yielded ++ (c.in-Some.i, c.in-Some.answer) ∷ []) ≡ k + 1 = simp length-append in
    let left : drop (3 * k) words ≡ chunk ++ chunks_exact_rest (zip_second c.next.new.self) = sym before.left ∙ step.1.1.0 in
    let size : length chunk ≡ 3 = step.1.1.1 ∙ before.size in
    let call : c.in-Some.i ≡ from + k = step.0.1.1 ∙ before.next in
    let line = subst (λ (s : List ℕ). Writes c.loop-i.at s c.loop-i.out c.call_line-at.result c.call_line-at.new.out)
    (line-is words chunk _ k left size answers from most c.in-Some.i refl few call) c.call_line-at.ensures in
    let word = λ (j : ℕ) (h : j < 3). word_is words chunk _ k left size answers from most j refl few h in
    rw more
    (record {
      next = omega (arith, step.0.1.2, before.next);
      size = step.1.0 ∙ before.size;
      left = rest-is words chunk _ k left size;
      writes = next-line answers from k before.writes line;
      few =
          omega (
            arith,
            before.few,
            c.call_line-at.ensures.place,
            length-call_line c.in-Some.i (get_or chunk 0 0) (get_or chunk 1 0) (get_or chunk 2 0)
                (omega (arith, call, within words chunk _ k left size, few))
                (omega (arith, word 0 (omega arith), c.type_inv.answers (3 * (from + k) + 0)))
                (omega (arith, word 1 (omega arith), c.type_inv.answers (3 * (from + k) + 1)))
                (omega (arith, word 2 (omega arith), c.type_inv.answers (3 * (from + k) + 2))),
          );
    })
