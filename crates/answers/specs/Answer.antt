-- A call's three answer words (document 01, 'The calls').
use Rattle.std.specs.Prelude.{ℕ, Result, Ok, Err, ◌%◌, ◌^◌, Bool, cond, List, [], ◌∷◌, ◌++◌, leb, ltb, length, drop}
use Rattle.machine.specs.Table.{domains, endpoints, rights_at, endpoint_at}
use Rattle.machine.specs.Call.{Call.one}
use Rattle.machine.specs.Machine.{answer_word}
use Rattle.calls.specs.Number.{number_of}
use Rattle.calls.specs.declared.Refusal.{Refusal}
use Rattle.answers.specs.declared.Answer.{Answer}

-- the words that an answer is
abbrev pub answer_words : Answer → List ℕ
answer_words a = a.head ∷ a.first ∷ a.second ∷ []

-- the answer words of a call with the first word w: its data words where it is done, or its refusal's code
abbrev pub answer_of : ℕ → Result (ℕ × ℕ) Refusal → List ℕ
answer_of w (Ok (x, y)) = answer_word (one w) 0 ∷ x ∷ y ∷ []
answer_of w (Err r) = answer_word (one w) (number_of r) ∷ 0 ∷ 0 ∷ []

-- the first answer word of a call with the first word w, without its code
unfoldable pub head_of : ℕ → ℕ
head_of w = answer_word (one w) 0

-- the words that the data is read from are in the table: every endpoint's, and a holder's rights
unfoldable pub has_endpoints : List ℕ → Bool
has_endpoints t = leb (endpoint_at (domains t) (endpoints t)) (length t)

unfoldable pub has_row : List ℕ → ℕ → Bool
has_row t u = leb (rights_at (domains t) u (domains t)) (length t)

-- a data word as it is shown: the lowest 32 bits of it, and 0 where its words aren't in the table
unfoldable pub shown : Bool → ℕ → ℕ
shown there x = cond there (x % 2 ^ 32) 0

-- the space with these words at its start; one of fewer than three words is left as it is
unfoldable pub answers_put : List ℕ → List ℕ → List ℕ
answers_put space words = cond (ltb (length space) 3) space (words ++ drop 3 space)
