-- The tally of lists that are run one after another from one table (document 02 (e)): the totals of its endpoints, and that it can
-- be computed by adding list after list.
use Rattle.std.specs.Prelude.{◌≡◌, ℕ, ◌*◌, ◌<◌, cond, List, [], ◌∷◌, ◌++◌, length, nat_lt}
use Rattle.machine.specs.Below.{words_below}
use Rattle.machine.specs.Table.{endpoints}
use Rattle.machine.specs.Check.{Accepted}
use Rattle.machine.specs.Entry.{Outcome, longest_list}
use Rattle.totals_theory.specs.Totals.{totals, table_after_lists}
use Rattle.totals_theory.specs.Claims.{Few}
use Rattle.totals_add.specs.declared.Tally.{Tally}
use Rattle.totals_add.specs.Added.{no_totals, ListAdded}

-- f e for each endpoint e below m, in as many words as a table can have endpoints
unfoldable pub of_endpoints : ℕ → (ℕ → ℕ) → List ℕ
of_endpoints m f = words_below 32 (λ e. cond (nat_lt e m) (f e) 0)

-- the totals of lists that are run from the table t, for each of its endpoints
unfoldable pub tally_of : List ℕ → List (List ℕ) → Tally
tally_of t lists =
    record {
      sent = of_endpoints (endpoints t) (λ e. (totals e t lists).sent);
      received = of_endpoints (endpoints t) (λ e. (totals e t lists).received);
      lost = of_endpoints (endpoints t) (λ e. (totals e t lists).lost);
    }

-- the tally is that of the lists, and the table is the one that they leave
pub record Tallied (t : List ℕ) (lists : List (List ℕ)) (tally : Tally) (table : List ℕ) : Type 0 where
  pub tally_is : tally ≡ tally_of t lists
  pub table_is : table ≡ table_after_lists t lists
  pub few : (e : ℕ) → Few (totals e t lists) (longest_list * length lists)

-- the most lists, each of the longest, of which no total can exceed 64 bits
abbrev pub most_added : ℕ
most_added = 4503599627370495

-- A tally begins as that of no list. A list that is added and not refused makes it that of one list more.
pub record AddedOneByOne (t : List ℕ) : Type 0 where
  pub begins : Tallied t [] no_totals t
  pub goes_on : (lists : List (List ℕ)) (table ws space holders : List ℕ) (o : Outcome) (tally tally' : Tally)
      → Accepted t
      → Tallied t lists tally table
      → length lists < most_added
      → ListAdded table ws space holders o tally tally'
      → o.code ≡ 0
      → Tallied t (lists ++ (ws ∷ [])) tally' o.table

abbrev pub EveryTallyListByList : Type 0
EveryTallyListByList = (t : List ℕ) → AddedOneByOne t
