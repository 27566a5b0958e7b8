-- What the bytes before a list say: how many words the list has, that the input ends, or why no list follows. Laws tie it to the
-- definition of the lists (proofs/ListLaws).
use Rattle.std.specs.Prelude.{ℕ, cond, List, length, eqb, ltb, Option, None, Some, Result, Ok, Err}
use Rattle.machine.specs.Entry.{longest_list}
use Rattle.input_words.specs.Bytes.{word_at}
use Rattle.linetotals_input.specs.declared.ListRefusal.{ListRefusal}
use Rattle.linetotals_input.specs.declared.ListRefusal.TheVariants.{TooMuch, CutShort}

-- a refusal's code
abbrev pub list_refusal_code : ListRefusal → ℕ
list_refusal_code TooMuch = 1
list_refusal_code CutShort = 7

-- what the bytes before a list say, where `left` more lists may come
unfoldable pub next_of : ℕ → List ℕ → Result (Option ℕ) ListRefusal
next_of left bytes =
    cond (eqb (length bytes) 0) (Ok None)
    (cond (eqb left 0) (Err TooMuch)
    (cond (ltb (length bytes) 4) (Err CutShort)
    (cond (ltb longest_list (word_at bytes 0)) (Err TooMuch) (Ok (Some (word_at bytes 0))))))
