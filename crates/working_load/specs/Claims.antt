-- What is claimed of loading and storing (document 02 (l)): a loaded state represents the table, and a state that represents a
-- table, stored to one with the same unchanging parts, is that table.
use Rattle.std.specs.Prelude.{ℕ, ◌≡◌, List}
use Rattle.machine.specs.Table.{domains, endpoints}
use Rattle.machine.specs.Check.{Accepted}
use Rattle.machine.specs.SameParts.{SameFrame}
use Rattle.rights_matrix.specs.Rows.{rows_of, stored_rows}
use Rattle.working_theory.specs.Represents.{Represents}
use Rattle.working_load.specs.Layout.{rings_of, stored_queues, names_of, owned_of}

-- a state loaded from an accepted table represents it
abbrev pub LoadedRepresents : Type 0
LoadedRepresents =
    (t : List ℕ)
    → Accepted t
    → Represents (domains t) (endpoints t) (rows_of (domains t) t) (rings_of (domains t) (endpoints t) t)
    (names_of (domains t) (endpoints t) t)
    (owned_of (domains t) (endpoints t) t)
    t

-- a state stored to an accepted table is the accepted table that it represents, where both have the same unchanging parts
abbrev pub StoreIsTable : Type 0
StoreIsTable =
    (t₀ t : List ℕ) (n m : ℕ) (rows : List (List ℕ)) (rings names owned : List ℕ)
    → Accepted t₀
    → Accepted t
    → SameFrame t t₀
    → Represents n m rows rings names owned t
    → stored_queues n m rings (stored_rows n rows t₀) ≡ t
