-- What the calls of a list count at each endpoint that a table can have, by their answers (document 02 (e)).
use Rattle.std.specs.Prelude.{◌≡◌, List, ℕ}
use Rattle.machine.specs.Below.{words_below}
use Rattle.machine.specs.Call.{split}
use Rattle.machine.specs.Counts.{sent_to, received_from}
use Rattle.totals_count.specs.declared.count_calls.Counted.{Counted}

pub record CallsCounted (list answers : List ℕ) (counted : Counted) : Type 0 where
  pub sent_is : counted.sent ≡ words_below 32 (λ e. sent_to e (split list) answers)
  pub received_is : counted.received ≡ words_below 32 (λ e. received_from e (split list) answers)
