-- The table's words: the place of each, how it is read, and the two ways to write (document 01, 'The table'). A call reads a
-- table by these names alone. Only the check and the views also read words by their places.
use Rattle.std.specs.Prelude.{ℕ, ◌+◌, ◌*◌, List, ◌++◌, get_or, take, drop, set}
use Rattle.machine.specs.Word.{payload, word, field_b, field_c}

-- n, the count of domains, and m, the count of endpoints: both are in word 0
unfoldable pub domains : List ℕ → ℕ
domains t = field_b (get_or t 0 0)

unfoldable pub endpoints : List ℕ → ℕ
endpoints t = field_c (get_or t 0 0)

-- the length that n domains and m endpoints require
abbrev pub length_for : ℕ → ℕ → ℕ
length_for n m = 1 + n * n + 12 * m

-- the place of the rights word of a holder on a target, and of the first of an endpoint's twelve words
abbrev pub rights_at : ℕ → ℕ → ℕ → ℕ
rights_at n holder target = 1 + holder * n + target

abbrev pub endpoint_at : ℕ → ℕ → ℕ
endpoint_at n e = 1 + n * n + 12 * e

-- the rights word of a holder on a target, and the set of rights in it
unfoldable pub rights_word : List ℕ → ℕ → ℕ → ℕ
rights_word t holder target = get_or t (rights_at (domains t) holder target) 0

unfoldable pub rights : List ℕ → ℕ → ℕ → ℕ
rights t holder target = payload (rights_word t holder target)

-- the twelve words of an endpoint
unfoldable pub endpoint : List ℕ → ℕ → List ℕ
endpoint t e = take 12 (drop (endpoint_at (domains t) e) t)

-- the two ways to write: a holder's rights on a target, and an endpoint's twelve words
unfoldable pub set_rights : List ℕ → ℕ → ℕ → ℕ → List ℕ
set_rights t holder target s = set t (rights_at (domains t) holder target) (word 2 s)

unfoldable pub set_endpoint : List ℕ → ℕ → List ℕ → List ℕ
set_endpoint t e q = take (endpoint_at (domains t) e) t ++ (q ++ drop 12 (drop (endpoint_at (domains t) e) t))
