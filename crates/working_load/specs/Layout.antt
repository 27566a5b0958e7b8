-- A table's endpoints in the working state (document 02 (l)): what is loaded from the table's words and what storing makes of them.
-- The definitions are total: they accept arbitrary words as a table of n domains and m endpoints.
use Rattle.std.specs.Prelude.{ℕ, ◌+◌, ◌-◌, ◌*◌, ◌/◌, ◌%◌, min, Bool, cond, ◌&&◌, List, eqb, leb, ltb, length, get_or, take, drop}
use Rattle.machine.specs.Below.{words_below, bits_below}
use Rattle.machine.specs.Word.{payload, field_b}
use Rattle.machine.specs.Table.{endpoint_at}
use Rattle.ring.specs.Ring.{ring_of, stored_queue}
use Rattle.working_theory.specs.State.{ring_at}

-- the twelve words of an endpoint among n domains
abbrev pub words_at : ℕ → List ℕ → ℕ → List ℕ
words_at n t e = take 12 (drop (endpoint_at n e) t)

-- at most 32 endpoints, all of whose words are in a table of that size, and twelve words lent for each
unfoldable pub has_queues : ℕ → ℕ → ℕ → ℕ → Bool
has_queues n m size lent = leb m 32 && leb (endpoint_at n m) size && eqb lent (12 * m)

-- the rings of the queues, word by word: word i is one of the ring of the endpoint i / 12
unfoldable pub rings_of : ℕ → ℕ → List ℕ → List ℕ
rings_of n m t = words_below (12 * m) (λ i. get_or (ring_of (words_at n t (i / 12))) (i % 12) 0)

-- word i of the table of n domains is one of the words of its m endpoints
unfoldable pub is_queue : ℕ → ℕ → ℕ → Bool
is_queue n m i = leb (endpoint_at n 0) i && ltb i (endpoint_at n m)

-- the table with the rings stored to it, word by word: its other words stay
unfoldable pub stored_queues : ℕ → ℕ → List ℕ → List ℕ → List ℕ
stored_queues n m rings t =
    words_below (length t)
    (λ i.
    let j = i - endpoint_at n 0 in
    cond (is_queue n m i) (get_or (stored_queue (ring_at rings (j / 12)) (words_at n t (j / 12))) (j % 12) 0) (get_or t i 0))

-- the names of the first 32 endpoints; 0 where there is none
unfoldable pub names_of : ℕ → ℕ → List ℕ → List ℕ
names_of n m t = words_below 32 (λ e. cond (ltb e m) (payload (get_or t (endpoint_at n e) 0)) 0)

-- for each of sixteen domains the endpoints, among the first 32, that it owns; only the low four bits of an owner's index count
unfoldable pub owned_of : ℕ → ℕ → List ℕ → List ℕ
owned_of n m t = words_below 16 (λ u. bits_below (min m 32) (λ e. eqb (field_b (get_or t (endpoint_at n e + 1) 0) % 16) u))
