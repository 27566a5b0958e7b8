-- The lines that `linerun` prints, as bytes (document 01, 'Into firmware and onto the bench').
use Rattle.std.specs.Prelude.{ℕ, List, ◌++◌}
use Rattle.machine.specs.Word.{kind, caller, answer_code}
use Rattle.text.specs.Ascii.{ascii}
use Rattle.text.specs.Decimal.{labelled}

-- the first line: the count of calls and the entry's code
unfoldable pub first_line : ℕ → ℕ → List ℕ
first_line calls code = labelled (ascii "calls ") calls ++ labelled (ascii " code ") code ++ ascii "\n"

-- the line of call i, whose answer is the words w, x and y
unfoldable pub call_line : ℕ → ℕ → ℕ → ℕ → List ℕ
call_line i w x y =
    labelled (ascii "call ") i
    ++ labelled (ascii " caller ") (caller w)
    ++ labelled (ascii " kind ") (kind w)
    ++ labelled (ascii " code ") (answer_code w)
    ++ labelled (ascii " data ") x
    ++ labelled (ascii " ") y
    ++ ascii "\n"
