-- A whole run on the working layout (document 02 (l)), as one closed statement: the table is loaded once, the calls run one after the
-- other on what was loaded, with no table beside it, and what they leave is stored once.
use Rattle.std.specs.Prelude.{ℕ, ◌≡◌, List, [], ◌∷◌, ◌++◌, Option, Some, None}
use Rattle.machine.specs.Table.{domains, endpoints}
use Rattle.machine.specs.Check.{Accepted}
use Rattle.machine.specs.Call.{Call, first, Call.one, Call.two}
use Rattle.machine.specs.Machine.{Decision}
use Rattle.machine.specs.Run as machine
use Rattle.machine.specs.Holders.{holders_of}
use Rattle.calls.specs.Decode.{decoded}
use Rattle.rules.specs.Access.{decided_by}
use Rattle.holders.specs.Noted.{holders_after}
use Rattle.rights_matrix.specs.Rows.{rows_of, stored_rows}
use Rattle.working_theory.specs.State.{named_in, reading_from, answer_from, effect_from, rows_after, rings_after}
use Rattle.working_load.specs.Layout.{rings_of, stored_queues, names_of, owned_of}

-- What calls only read: how many domains and endpoints there are, the names and the hints for them, and what each domain owns.
pub record Unchanging : Type 0 where
  pub n : ℕ
  pub m : ℕ
  pub names : List ℕ
  pub hints : List ℕ
  pub owned : List ℕ

-- What calls alter: the rights as rows and the queues as rings.
pub record Parts : Type 0 where
  pub rows : List (List ℕ)
  pub rings : List ℕ

-- a call's second word, if it has one
unfoldable pub second_of : Call → Option ℕ
second_of (one w) = None
second_of (two w v) = Some v

-- the decision on a call, by what the state says
unfoldable pub decided_on : Unchanging → Parts → Call → Decision
decided_on u p c =
    decided_by u.n u.m (reading_from p.rows p.rings (named_in u.m u.names u.hints)) (decoded (first c) (second_of c))

-- the parts after a call, and after calls
unfoldable pub parts_after : Unchanging → Parts → Call → Parts
parts_after u p c =
    let e = effect_from p.rows p.rings (decided_on u p c) in
    record { rows = rows_after p.rows e; rings = rings_after p.rings e }

unfoldable pub run_on : Unchanging → Parts → List Call → Parts
run_on u p [] = p
run_on u p (c ∷ cs) = run_on u (parts_after u p c) cs

-- the answers to calls, three words for each
unfoldable pub answers_on : Unchanging → Parts → List Call → List ℕ
answers_on u p [] = []
answers_on u p (c ∷ cs) =
    answer_from (first c) p.rows p.rings u.owned (decided_on u p c) ++ answers_on u (parts_after u p c) cs

-- the holders after calls, of those that were kept before them, noted call by call by what the state says
unfoldable pub holders_on : Unchanging → Parts → List ℕ → List Call → List ℕ
holders_on u p kept [] = kept
holders_on u p kept (c ∷ cs) =
    holders_on u (parts_after u p c) (holders_after kept (effect_from p.rows p.rings (decided_on u p c))) cs

-- what is loaded from a table, with any hints
abbrev pub loaded_once : List ℕ → List ℕ → Unchanging
loaded_once t hints =
    record {
      n = domains t;
      m = endpoints t;
      names = names_of (domains t) (endpoints t) t;
      hints = hints;
      owned = owned_of (domains t) (endpoints t) t;
    }

abbrev pub loaded_parts : List ℕ → Parts
loaded_parts t = record { rows = rows_of (domains t) t; rings = rings_of (domains t) (endpoints t) t }

-- a table to which parts are stored
abbrev pub stored_once : List ℕ → Parts → List ℕ
stored_once t p = stored_queues (domains t) (endpoints t) p.rings (stored_rows (domains t) p.rows t)

-- From an accepted table, of any calls, however many, and whatever the hints: the answers are the machine's, what is stored at the end
-- is the machine's table, and the table's holders, noted call by call, are those of the table at the end.
abbrev pub EveryRunLoadedOnce : Type 0
EveryRunLoadedOnce =
    (t hints : List ℕ) (cs : List Call)
    → Accepted t
    → (answers_on (loaded_once t hints) (loaded_parts t) cs ≡ machine.answers t cs)
    × (stored_once t (run_on (loaded_once t hints) (loaded_parts t) cs) ≡ machine.run t cs)
    × (holders_on (loaded_once t hints) (loaded_parts t) (holders_of t) cs ≡ holders_of (machine.run t cs))
