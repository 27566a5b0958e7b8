-- Two runs that keep the promise of a run give the same (specs/TwoRuns). Assumes nothing.
use mathlib.Core.Path.{sym, ◌∙◌}
use Rattle.working_theory.specs.TwoRuns.{BothGiveTheSame}

pub both-give-the-same : BothGiveTheSame
both-give-the-same t ws space holders code code' calls calls' answers answers' end end' kept kept' p q =
    record {
      same_code = p.same_code ∙ sym q.same_code;
      same_calls = p.same_calls ∙ sym q.same_calls;
      same_answers = p.same_answers ∙ sym q.same_answers;
      same_table = p.same_table ∙ sym q.same_table;
      same_holders = p.same_holders ∙ sym q.same_holders;
    }
