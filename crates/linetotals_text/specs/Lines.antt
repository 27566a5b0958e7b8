-- The lines that `linetotals` prints, as bytes (document 02 (e), end-of-shift totals).
use Rattle.std.specs.Prelude.{ℕ, List, ◌++◌}
use Rattle.text.specs.Ascii.{ascii}
use Rattle.text.specs.Decimal.{labelled}

-- the line of endpoint e: sends answered 0, messages received and lost, and messages waiting at the start and at the end
unfoldable pub endpoint_line : ℕ → ℕ → ℕ → ℕ → ℕ → ℕ → List ℕ
endpoint_line e sent received lost start end =
    labelled (ascii "endpoint ") e
    ++ labelled (ascii " sent ") sent
    ++ labelled (ascii " received ") received
    ++ labelled (ascii " lost ") lost
    ++ labelled (ascii " start ") start
    ++ labelled (ascii " end ") end
    ++ ascii "\n"

-- the last line: the count of lists that ran, and the code
unfoldable pub last_line : ℕ → ℕ → List ℕ
last_line lists code = labelled (ascii "lists ") lists ++ labelled (ascii " code ") code ++ ascii "\n"
