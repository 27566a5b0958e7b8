-- Rows of five words and the calls that they are, and the results of writing them. Worked out by hand from document 02, (c).
use Rattle.std.specs.Prelude.{ℕ, ◌≡◌, List, [], ◌∷◌, replicate}
use Rattle.calls.specs.declared.Call.TheVariants.{LookUp, Send, Receive, MyEndpoints, MyRights, Grant, Remove, Revoke}
use Rattle.writer_theory.specs.Write.{WriteOutcome, refusal}
use Rattle.writer_theory.specs.Rows.{no_call, rows_handed_in, writing_rows}

-- one call of each kind, with a value in every column that it uses; a value is passed as it is, whether it fits or not
abbrev pub EachKindHandedIn : Type 0
EachKindHandedIn =
    rows_handed_in
    (1 ∷ 9 ∷ 0 ∷ 0 ∷ 268435456
    ∷ 2 ∷ 9 ∷ 0 ∷ 8 ∷ 7
    ∷ 3 ∷ 9 ∷ 0 ∷ 256 ∷ 0
    ∷ 4 ∷ 64 ∷ 0 ∷ 0 ∷ 0
    ∷ 5 ∷ 9 ∷ 0 ∷ 0 ∷ 0
    ∷ 6 ∷ 9 ∷ 6 ∷ 8 ∷ 7
    ∷ 7 ∷ 9 ∷ 6 ∷ 0 ∷ 7
    ∷ 8 ∷ 9 ∷ 6 ∷ 8 ∷ 7
    ∷ [])
    ≡ LookUp 9 268435456 ∷ Send 9 8 7 ∷ Receive 9 256 ∷ MyEndpoints 64 ∷ MyRights 9 ∷ Grant 9 6 8 7 ∷ Remove 9 6 7 ∷ Revoke 9 6 8 7 ∷ []

-- rows that are no calls: kinds that no call has, each column that a kind doesn't use, and four words left over
abbrev pub no_calls : List ℕ
no_calls =
    0 ∷ 0 ∷ 0 ∷ 0 ∷ 0
    ∷ 9 ∷ 0 ∷ 0 ∷ 0 ∷ 0
    ∷ 14 ∷ 0 ∷ 0 ∷ 0 ∷ 0
    ∷ 15 ∷ 0 ∷ 0 ∷ 0 ∷ 0
    ∷ 16 ∷ 0 ∷ 0 ∷ 0 ∷ 0
    ∷ 4294967295 ∷ 0 ∷ 0 ∷ 0 ∷ 0
    ∷ 1 ∷ 0 ∷ 1 ∷ 0 ∷ 0
    ∷ 1 ∷ 0 ∷ 0 ∷ 1 ∷ 0
    ∷ 2 ∷ 0 ∷ 1 ∷ 0 ∷ 0
    ∷ 3 ∷ 0 ∷ 1 ∷ 0 ∷ 0
    ∷ 3 ∷ 0 ∷ 0 ∷ 0 ∷ 1
    ∷ 4 ∷ 0 ∷ 1 ∷ 0 ∷ 0
    ∷ 4 ∷ 0 ∷ 0 ∷ 1 ∷ 0
    ∷ 4 ∷ 0 ∷ 0 ∷ 0 ∷ 1
    ∷ 5 ∷ 0 ∷ 1 ∷ 0 ∷ 0
    ∷ 5 ∷ 0 ∷ 0 ∷ 1 ∷ 0
    ∷ 5 ∷ 0 ∷ 0 ∷ 0 ∷ 1
    ∷ 7 ∷ 0 ∷ 0 ∷ 1 ∷ 0
    ∷ 4 ∷ 0 ∷ 0 ∷ 0
    ∷ []

abbrev pub NoCallsHandedIn : Type 0
NoCallsHandedIn = rows_handed_in no_calls ≡ replicate 19 no_call

-- rows, lent words, and the whole result
pub record Row : Type 0 where
  pub rows : List ℕ
  pub list : List ℕ
  pub leaves : WriteOutcome

abbrev pub EveryRow : List Row → Type 0
EveryRow [] = Unit {0}
EveryRow (r ∷ rs) = (writing_rows r.rows r.list ≡ r.leaves) × EveryRow rs

abbrev pub written_rows : List Row
written_rows =
    record { rows = 2 ∷ 1 ∷ 0 ∷ 3 ∷ 5 ∷ 3 ∷ 2 ∷ 0 ∷ 1 ∷ 0 ∷ []; list = 7 ∷ 7 ∷ 7 ∷ 7 ∷ []; leaves = record { code = 0; number = 3; list = 0x2040_0300 ∷ 0xF000_0005 ∷ 0x3080_0100 ∷ 7 ∷ [] } }
    -- one word left over is a third call that can't be written
    ∷ record { rows = 2 ∷ 1 ∷ 0 ∷ 3 ∷ 5 ∷ 3 ∷ 2 ∷ 0 ∷ 1 ∷ 0 ∷ 5 ∷ []; list = 7 ∷ 7 ∷ 7 ∷ 7 ∷ []; leaves = refusal 30 2 (7 ∷ 7 ∷ 7 ∷ 7 ∷ []) }
    ∷ []
