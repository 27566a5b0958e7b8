-- What a list that ran counts at each endpoint of the table t that it left (document 02 (e)), by its answers and by what waited
-- before it, and what adding that to a tally leaves.
use Rattle.std.specs.Prelude.{◌≡◌, ℕ, ◌+◌, ◌-◌, ◌^◌, ◌<◌, ◌≤◌, List, slice_index}
use Rattle.machine.specs.Table.{endpoints, endpoint}
use Rattle.machine.specs.Queue.{waiting}
use Rattle.machine.specs.Call.{split}
use Rattle.machine.specs.Counts.{sent_to, received_from}
use Rattle.totals_add.specs.declared.Tally.{Tally}
use Rattle.totals_add.specs.Added.{added_below}

-- what went into the queue of the endpoint e or waited there, and what came out by a receive or waits there now: the rest was lost
abbrev pub came_in : ℕ → List ℕ → List ℕ → List ℕ → ℕ
came_in e ws answers before = sent_to e (split ws) answers + slice_index before e

abbrev pub accounted_for : ℕ → List ℕ → List ℕ → List ℕ → ℕ
accounted_for e t ws answers = received_from e (split ws) answers + waiting (endpoint t e)

-- no more is accounted for than came in
pub record Countable (t ws answers before : List ℕ) : Type 0 where
  pub few : endpoints t ≤ 32
  pub enough : (e : ℕ) → e < endpoints t → accounted_for e t ws answers ≤ came_in e ws answers before
  pub fits : (e : ℕ) → e < endpoints t → came_in e ws answers before < 2 ^ 64

pub record CountsAdded (t ws answers before : List ℕ) (tally tally' : Tally) : Type 0 where
  pub sent_added : tally'.sent ≡ added_below (endpoints t) tally.sent (λ e. sent_to e (split ws) answers)
  pub received_added : tally'.received ≡ added_below (endpoints t) tally.received (λ e. received_from e (split ws) answers)
  pub lost_added : tally'.lost ≡ added_below (endpoints t) tally.lost (λ e. came_in e ws answers before - accounted_for e t ws answers)
