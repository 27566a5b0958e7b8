-- The totals of lists that are run one after another from one table (document 02 (e), end-of-shift totals): at an endpoint, the
-- sends answered 0, the messages received, and the sends among them that found the queue full, so that a message was lost.
use Rattle.std.specs.Prelude.{ℕ, ◌+◌, List, [], ◌∷◌, ◌++◌}
use Rattle.machine.specs.Call.{Call, split}
use Rattle.machine.specs.Run.{run, answers}
use Rattle.machine.specs.Counts.{sent_to, received_from, full_sends}

-- what is counted at an endpoint
pub record Totals : Type 0 where
  pub sent : ℕ
  pub received : ℕ
  pub lost : ℕ

-- nothing is counted yet
unfoldable pub no_counts : Totals
no_counts = record { sent = 0; received = 0; lost = 0 }

-- the sum of two counts
unfoldable pub together : Totals → Totals → Totals
together a b = record { sent = a.sent + b.sent; received = a.received + b.received; lost = a.lost + b.lost }

-- what the calls of one list, run from the table t, count at the endpoint e
unfoldable pub list_totals : ℕ → List ℕ → List ℕ → Totals
list_totals e t ws =
    record {
      sent = sent_to e (split ws) (answers t (split ws));
      received = received_from e (split ws) (answers t (split ws));
      lost = full_sends e t (split ws);
    }

-- the table after lists: the first gets the table t, each later one the table left by the list before
unfoldable pub table_after_lists : List ℕ → List (List ℕ) → List ℕ
table_after_lists t [] = t
table_after_lists t (ws ∷ lists) = table_after_lists (run t (split ws)) lists

-- what all the lists, run one after another from the table t, count at the endpoint e
unfoldable pub totals : ℕ → List ℕ → List (List ℕ) → Totals
totals e t [] = no_counts
totals e t (ws ∷ lists) = together (list_totals e t ws) (totals e (run t (split ws)) lists)

-- the calls of all the lists, each list split separately: a word of kind 15 at the front of one makes no call with the last word
-- of the one before
unfoldable pub calls_of : List (List ℕ) → List Call
calls_of [] = []
calls_of (ws ∷ lists) = split ws ++ calls_of lists
