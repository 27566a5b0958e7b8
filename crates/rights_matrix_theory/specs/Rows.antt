-- The rights of up to sixteen domains as sixteen rows of sixteen small numbers (document 02 (l)): row h has what the domain h
-- holds, and place g of it the rights on g. The file has how they are read and altered, loaded from a table and stored to it. The
-- definitions are total: they accept arbitrary words.
use Rattle.std.specs.Prelude.{ℕ, zero, suc, ◌-◌, ◌*◌, ◌/◌, ◌%◌, Bool, cond, ◌&&◌, List, [], ◌∷◌, ◌++◌, leb, ltb, length, get_or, take, drop, set}
use Rattle.machine.specs.Below.{words_below}
use Rattle.machine.specs.Word.{word}
use Rattle.machine.specs.Table.{rights_at}

-- the rights of h on g; only the low four bits of each index count
unfoldable pub held_in : List (List ℕ) → ℕ → ℕ → ℕ
held_in rows h g = get_or (get_or rows (h % 16) []) (g % 16) 0

-- the rows with s as h's rights on g
unfoldable pub with_held : List (List ℕ) → ℕ → ℕ → ℕ → List (List ℕ)
with_held rows h g s = set rows (h % 16) (set (get_or rows (h % 16) []) (g % 16) s)

-- the rows f 0, f 1, .., f (k - 1)
unfoldable pub rows_below : ℕ → (ℕ → List ℕ) → List (List ℕ)
rows_below zero f = []
rows_below (suc k) f = rows_below k f ++ (f k ∷ [])

-- the row of one holder's rights words, of which the low eight bits count; nothing is held on a target without a word
unfoldable pub row_of : List ℕ → List ℕ
row_of ws = words_below 16 (λ g. get_or ws g 0 % 256)

-- the rows of a table of n domains; one that isn't a domain holds nothing
unfoldable pub rows_of : ℕ → List ℕ → List (List ℕ)
rows_of n t = rows_below 16 (λ h. row_of (cond (ltb h n) (take n (drop (rights_at n h 0) t)) []))

-- word i of a table of n domains is one of its rights words
unfoldable pub is_rights : ℕ → ℕ → Bool
is_rights n i = leb 1 i && leb i (n * n)

-- a table of n domains with the rows stored to it: its other words stay
unfoldable pub stored_rows : ℕ → List (List ℕ) → List ℕ → List ℕ
stored_rows n rows t =
    words_below (length t) (λ i. cond (is_rights n i) (word 2 (held_in rows ((i - 1) / n) ((i - 1) % n))) (get_or t i 0))

-- at most sixteen domains, and words enough for their rights
unfoldable pub has_rights : ℕ → ℕ → Bool
has_rights n size = leb n 16 && ltb (n * n) size
