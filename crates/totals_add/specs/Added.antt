-- Totals in words of 64 bits (document 02 (e)), one for each endpoint from 0 on, and what adding a list to them leaves.
use Rattle.std.specs.Prelude.{◌≡◌, ℕ, ◌+◌, ◌%◌, ◌^◌, cond, List, length, replicate, ◌==◌, nat_lt, slice_index}
use Rattle.machine.specs.Below.{words_below}
use Rattle.machine.specs.Table.{endpoints}
use Rattle.machine.specs.Entry.{Outcome}
use Rattle.machine.specs.Promise.{Keeps}
use Rattle.totals_theory.specs.Totals.{list_totals}
use Rattle.totals_add.specs.declared.Tally.{Tally}

-- nothing is counted yet
abbrev pub no_totals : Tally
no_totals = record { sent = replicate 32 0; received = replicate 32 0; lost = replicate 32 0 }

-- the words xs with f e added to word e for each e below m, in 64 bits; the words after them stay
unfoldable pub added_below : ℕ → List ℕ → (ℕ → ℕ) → List ℕ
added_below m xs f =
    words_below (length xs) (λ e. cond (nat_lt e m) ((slice_index xs e + f e) % 2 ^ 64) (slice_index xs e))

-- the words xs after a run with a code: where it is 0, with f e added for each endpoint e of the table t
unfoldable pub added_if_run : ℕ → List ℕ → List ℕ → (ℕ → ℕ) → List ℕ
added_if_run code t xs f = cond (code == 0) (added_below (endpoints t) xs f) xs

-- What adding the list ws, run from the table t, to a tally leaves: the outcome o, which keeps all that a run promises, and the tally
-- with what the list counts. A refused list leaves the tally as it is.
pub record ListAdded (t ws space holders : List ℕ) (o : Outcome) (tally tally' : Tally) : Type 0 where
  pub run : Keeps t ws space holders o
  pub sent_added : tally'.sent ≡ added_if_run o.code t tally.sent (λ e. (list_totals e t ws).sent)
  pub received_added : tally'.received ≡ added_if_run o.code t tally.received (λ e. (list_totals e t ws).received)
  pub lost_added : tally'.lost ≡ added_if_run o.code t tally.lost (λ e. (list_totals e t ws).lost)
