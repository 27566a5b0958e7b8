-- The potential rights as they are computed: an access matrix, n × n sets of rights in a list, holder by holder, in which the
-- domains that act give each other all that they can, round after round, until a round adds nothing.
use Rattle.std.specs.Prelude.{ℕ, zero, suc, ◌+◌, ◌*◌, ◌≤◌, ◌≡◌, cond, List, [], ◌∷◌, ltb, length, get_or, set}
use Rattle.machine.specs.Below.{words_below, has_bit}
use Rattle.machine.specs.Word.{payload}
use Rattle.machine.specs.Right.{GRANT, all_rights, holds, adds, has_any}
use Rattle.machine.specs.Table.{domains}

-- a matrix of n domains: n × n cells, each a set of rights
pub record Proper (n : ℕ) (m : List ℕ) : Type 0 where
  pub size : length m ≡ n * n
  pub within : (i : ℕ) → get_or m i 0 ≤ all_rights

-- where the rights of h on g are in a matrix of n domains, and the set that is there
abbrev pub cell_at : ℕ → ℕ → ℕ → ℕ
cell_at n h g = h * n + g

unfoldable pub cell : ℕ → List ℕ → ℕ → ℕ → ℕ
cell n m h g = get_or m (cell_at n h g) 0

-- the matrix of a table: its rights words without their kind
unfoldable pub matrix_of : List ℕ → List ℕ
matrix_of t = words_below (domains t * domains t) (λ i. payload (get_or t (1 + i) 0))

-- the steps f 0, f 1, .., f (k - 1), each on what the one before left
unfoldable pub steps_below : ℕ → (ℕ → List ℕ → List ℕ) → List ℕ → List ℕ
steps_below zero f m = m
steps_below (suc k) f m = f k (steps_below k f m)

-- u gives h its rights on g, if GRANT is among them
unfoldable pub granted_on : ℕ → ℕ → ℕ → ℕ → List ℕ → List ℕ
granted_on n u h g m = cond (holds (cell n m u g) GRANT) (set m (cell_at n h g) (adds (cell n m h g) (cell n m u g))) m

-- u gives h all that it can on every target, if it has some right on h
unfoldable pub granted_to : ℕ → ℕ → ℕ → List ℕ → List ℕ
granted_to n u h m = cond (has_any (cell n m u h)) (steps_below n (granted_on n u h) m) m

-- u gives every domain all that it can, if it is one that acts
unfoldable pub granted_by : ℕ → ℕ → ℕ → List ℕ → List ℕ
granted_by n s u m = cond (has_bit s u) (steps_below n (granted_to n u) m) m

-- one round: each domain that acts gives all that it can
unfoldable pub round : ℕ → ℕ → List ℕ → List ℕ
round n s m = steps_below n (granted_by n s) m

-- the sum of all sets as numbers, which rises with every right that is added
unfoldable pub total : List ℕ → ℕ
total [] = 0
total (x ∷ xs) = x + total xs

-- rounds until one adds nothing, k at the most
unfoldable pub settled : ℕ → ℕ → ℕ → List ℕ → List ℕ
settled zero n s m = m
settled (suc k) n s m =
    let next = round n s m in
    let rest = settled k n s next in
    cond (ltb (total m) (total next)) rest m

-- a count of rounds that is enough for n domains: the sum is at most all_rights for each cell
abbrev pub enough : ℕ → ℕ
enough n = suc (n * n * all_rights)

-- the matrix of all potential rights, where the domains of s act
unfoldable pub potential : List ℕ → ℕ → List ℕ
potential t s = settled (enough (domains t)) (domains t) s (matrix_of t)

-- those of h on g
unfoldable pub potential_rights : List ℕ → ℕ → ℕ → ℕ → ℕ
potential_rights t s h g = cell (domains t) (potential t s) h g
