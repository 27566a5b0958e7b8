-- An input of `linerun` and what it prints for it: list L on table T, as document 01 shows them.
use Rattle.std.specs.Prelude.{ℕ, ◌≡◌, List, [], ◌∷◌, ◌++◌}
use Prim.Native.String.{String}
use Rattle.machine.specs.Examples.{T, L}
use Rattle.text.specs.Ascii.{ascii}
use Rattle.input_words.specs.Bytes.{bytes_of}
use Rattle.linerun_report.specs.Report.{report}

-- an input, and what is printed for it
pub record Row : Type 0 where
  pub input : List ℕ
  pub printed : String

-- every row holds of the definition
abbrev pub EveryRow : List Row → Type 0
EveryRow [] = Unit {0}
EveryRow (r ∷ rs) = (report r.input ≡ ascii r.printed) × EveryRow rs

-- the rows
abbrev pub rows : List Row
rows =
    record {
      input = bytes_of (34 ∷ T ++ L);
      printed =
          "calls 9 code 0\ncall 0 caller 0 kind 2 code 17 data 0 0\ncall 1 caller 1 kind 6 code 0 data 0 0\ncall 2 caller 0 kind 2 code 0 data 0 0\ncall 3 caller 0 kind 2 code 0 data 0 0\ncall 4 caller 2 kind 3 code 0 data 6 1\ncall 5 caller 2 kind 3 code 19 data 0 0\ncall 6 caller 0 kind 15 code 10 data 0 0\ncall 7 caller 0 kind 5 code 0 data 272 0\ncall 8 caller 2 kind 4 code 0 data 2 0\n";
    }
    ∷ []
