-- Calls as plain words, as C passes them: five words a call, here a row. They are its kind, its caller, A, B, and C or, for a
-- look up and a send, what the second word holds (document 02, (c)).
use Rattle.std.specs.Prelude.{ℕ, ◌+◌, cond, ◌&&◌, List, [], ◌∷◌, ◌++◌, eqb, ltb, length, get_or}
use Rattle.machine.specs.Call as machine
use Rattle.machine.specs.Call.{Kind.look_up, Kind.send, Kind.receive, Kind.my_endpoints, Kind.my_rights, Kind.grant, Kind.remove, Kind.revoke, Kind.stray, Kind.unknown}
use Rattle.calls.specs.declared.Call.{Call}
use Rattle.calls.specs.declared.Call.TheVariants.{LookUp, Send, Receive, MyEndpoints, MyRights, Grant, Remove, Revoke, Refused}
use Rattle.calls.specs.declared.Refusal.TheVariants.{UnknownKind}
use Rattle.writer_theory.specs.Words.{fields_of}
use Rattle.writer_theory.specs.Write.{WriteOutcome, writing}

-- what represents a row that is no call: a refused one
abbrev pub no_call : Call
no_call = Refused 0 UnknownKind

-- the call where its unused columns are zero, else no call; 0 is passed for a column that its kind uses
unfoldable pub where_zero : ℕ → ℕ → ℕ → Call → Call
where_zero a b c call = cond (eqb a 0 && eqb b 0 && eqb c 0) call no_call

-- the call of a kind with these columns: caller, A, B and the last
unfoldable pub of_columns : machine.Kind → ℕ → ℕ → ℕ → ℕ → Call
of_columns look_up u a b x = where_zero a b 0 (LookUp u x)
of_columns send u a e m = where_zero a 0 0 (Send u e m)
of_columns receive u a e c = where_zero a 0 c (Receive u e)
of_columns my_endpoints u a b c = where_zero a b c (MyEndpoints u)
of_columns my_rights u a b c = where_zero a b c (MyRights u)
of_columns grant u g h r = Grant u g h r
of_columns remove u g b r = where_zero 0 b 0 (Remove u g r)
of_columns revoke u g h r = Revoke u g h r
of_columns stray u a b c = no_call
of_columns unknown u a b c = no_call

-- the call of a row
unfoldable pub row_call : ℕ → ℕ → ℕ → ℕ → ℕ → Call
row_call k u a b c = of_columns (machine.kind_of k) u a b c

-- the call of the row that begins at an index of some words
unfoldable pub call_at : List ℕ → ℕ → Call
call_at ws at =
    cond (ltb (length ws) (at + 5)) no_call
    (row_call (get_or ws at 0) (get_or ws (at + 1) 0) (get_or ws (at + 2) 0) (get_or ws (at + 3) 0) (get_or ws (at + 4) 0))

-- the calls of some words, five a call; fewer than five left at the end are no call
unfoldable pub rows_handed_in : List ℕ → List Call
rows_handed_in [] = []
rows_handed_in (k ∷ []) = no_call ∷ []
rows_handed_in (k ∷ (u ∷ [])) = no_call ∷ []
rows_handed_in (k ∷ (u ∷ (a ∷ []))) = no_call ∷ []
rows_handed_in (k ∷ (u ∷ (a ∷ (b ∷ [])))) = no_call ∷ []
rows_handed_in (k ∷ (u ∷ (a ∷ (b ∷ (c ∷ ws))))) = row_call k u a b c ∷ rows_handed_in ws

-- the row of a call: its kind, its caller, A, B, and C or, where the kind wants a second word, what that holds; a refused call
-- has a row that is no call
unfoldable pub row_of : Call → List ℕ
row_of c =
    let f = fields_of c in
    f.kind ∷ f.caller ∷ f.a ∷ f.b ∷ cond (machine.wants_second f.kind) f.second f.c ∷ []

-- the rows of some calls, one after the other
unfoldable pub rows_of : List Call → List ℕ
rows_of [] = []
rows_of (c ∷ cs) = row_of c ++ rows_of cs

-- the writing of the calls of the rows: all of them are there
abbrev pub writing_rows : List ℕ → List ℕ → WriteOutcome
writing_rows rows list = writing (rows_handed_in rows) (length (rows_handed_in rows)) list
