-- A list of calls that gives every potential right: the grants that the closure makes, in its order, without those that add
-- nothing. Each is a call of one word, by a domain that acts.
use Rattle.std.specs.Prelude.{ℕ, zero, suc, ◌+◌, ◌*◌, cond, List, [], ◌∷◌, ◌++◌, ltb}
use Rattle.machine.specs.Below.{has_bit}
use Rattle.machine.specs.Word.{word}
use Rattle.machine.specs.Right.{GRANT, holds, has_any}
use Rattle.machine.specs.Table.{domains}
use Rattle.potential_theory.specs.Closure.{cell, matrix_of, steps_below, granted_on, granted_to, granted_by, round, total, enough}

-- the word by which u grants h the rights r on g
unfoldable pub grant_word : ℕ → ℕ → ℕ → ℕ → ℕ
grant_word u h g r = word 6 (u * 4194304 + g * 65536 + h * 256 + r)

-- the calls of the steps f 0, f 1, .., f (k - 1), given those of each on what the one before left
unfoldable pub calls_below : ℕ → (ℕ → List ℕ → List ℕ) → (ℕ → List ℕ → List ℕ) → List ℕ → List ℕ
calls_below zero f calls m = []
calls_below (suc k) f calls m = calls_below k f calls m ++ calls k (steps_below k f m)

-- the calls of granted_on: one, if h lacks some of the rights
unfoldable pub calls_on : ℕ → ℕ → ℕ → ℕ → List ℕ → List ℕ
calls_on n u h g m =
    cond (holds (cell n m u g) GRANT)
    (cond (holds (cell n m h g) (cell n m u g)) [] (grant_word u h g (cell n m u g) ∷ []))
    []

-- the calls of granted_to
unfoldable pub calls_to : ℕ → ℕ → ℕ → List ℕ → List ℕ
calls_to n u h m = cond (has_any (cell n m u h)) (calls_below n (granted_on n u h) (calls_on n u h) m) []

-- the calls of granted_by
unfoldable pub calls_by : ℕ → ℕ → ℕ → List ℕ → List ℕ
calls_by n s u m = cond (has_bit s u) (calls_below n (granted_to n u) (calls_to n u) m) []

-- the calls of a round
unfoldable pub round_calls : ℕ → ℕ → List ℕ → List ℕ
round_calls n s m = calls_below n (granted_by n s) (calls_by n s) m

-- the calls of all rounds
unfoldable pub settled_calls : ℕ → ℕ → ℕ → List ℕ → List ℕ
settled_calls zero n s m = []
settled_calls (suc k) n s m =
    let next = round n s m in
    let rest = round_calls n s m ++ settled_calls k n s next in
    cond (ltb (total m) (total next)) rest []

-- the list that gives every potential right
unfoldable pub potential_list : List ℕ → ℕ → List ℕ
potential_list t s = settled_calls (enough (domains t)) (domains t) s (matrix_of t)
