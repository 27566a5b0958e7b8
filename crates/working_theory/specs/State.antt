-- The working state of a run (document 02 (l)), part by part: the rights as rows (crate rights_matrix), the queues as rings of
-- twelve words (crate ring), the endpoints' names side by side, and for each domain the endpoints that it owns as bits. The file
-- has what is read for a call, what is answered, and what a decision alters. The definitions are total: they accept arbitrary
-- numbers and words.
use Rattle.std.specs.Prelude.{ℕ, ◌+◌, ◌*◌, ◌/◌, ◌%◌, ◌^◌, cond, ◌&&◌, List, [], ◌∷◌, ◌++◌, eqb, ltb, get_or, take, drop}
use Rattle.std.proofs.Math.Option.{Option, none, some}
use Rattle.machine.specs.Below.{first_below, sum_below}
use Rattle.machine.specs.Right.{adds, without}
use Rattle.machine.specs.Call.{Call.one}
use Rattle.machine.specs.Machine as machine
use Rattle.machine.specs.Machine.{Effect, answer_word, code, Effect.nothing, Effect.new_rights, Effect.new_endpoint}
use Rattle.rules.specs.Access.{Reading}
use Rattle.rights_matrix.specs.Rows.{held_in, with_held}
use Rattle.ring.specs.Ring.{count, lost_count, ring_owner, message_at, ring_sent, ring_take, of_twelve}

-- the ring of the endpoint e, and the rings with another in its place
abbrev pub ring_at : List ℕ → ℕ → List ℕ
ring_at rings e = take 12 (drop (12 * e) rings)

abbrev pub with_ring : List ℕ → ℕ → List ℕ → List ℕ
with_ring rings e r = take (12 * e) rings ++ (r ++ drop 12 (drop (12 * e) rings))

-- the index of the hint for a name, among 1,024
abbrev pub hint_place : ℕ → ℕ
hint_place x = x * 2654435761 / 4194304 % 1024

-- The endpoint, among m, that has a name. The hint is used only where it is one of the m and has that name. Else it is the first
-- that has it. The hints may be arbitrary numbers.
unfoldable pub named_in : ℕ → List ℕ → List ℕ → ℕ → Option ℕ
named_in m names hints x =
    cond (ltb (get_or hints (hint_place x) 0) m && eqb (get_or names (get_or hints (hint_place x) 0 % 32) 0) x)
    (some (get_or hints (hint_place x) 0))
    (first_below m (λ e. eqb (get_or names (e % 32) 0) x))

-- no endpoint has a name: what is read for a call without a name
abbrev pub nobody : ℕ → Option ℕ
nobody x = none

-- what is read for a call, with the function that finds the endpoint of a name
abbrev pub reading_from : List (List ℕ) → List ℕ → (ℕ → Option ℕ) → Reading
reading_from rows rings named =
    record {
      rights = held_in rows;
      owner = λ e. ring_owner (ring_at rings e);
      waiting = λ e. count (ring_at rings e);
      named = named;
    }

-- the rights of u on the eight targets from g on, four bits each, as far as they fit into a word
unfoldable pub row_bits : List (List ℕ) → ℕ → ℕ → ℕ
row_bits rows u g = sum_below 8 (λ i. held_in rows u (g + i) * 16 ^ i) % 2 ^ 32

-- the first data word of the answer by a decision, zero where it has no data
unfoldable pub first_from : List (List ℕ) → List ℕ → List ℕ → machine.Decision → ℕ
first_from rows rings owned (machine.refused n) = 0
first_from rows rings owned (machine.looked_up e) = e
first_from rows rings owned (machine.sends e message) = 0
first_from rows rings owned (machine.receives e) = of_twelve (ring_at rings e) (message_at (ring_at rings e) 0) 0
first_from rows rings owned (machine.lists_endpoints u) = get_or owned (u % 16) 0
first_from rows rings owned (machine.lists_rights u) = row_bits rows u 0
first_from rows rings owned (machine.grants g h r) = 0
first_from rows rings owned (machine.removes g u r) = 0
first_from rows rings owned (machine.revokes g h r) = 0

-- the second data word
unfoldable pub second_from : List (List ℕ) → List ℕ → machine.Decision → ℕ
second_from rows rings (machine.refused n) = 0
second_from rows rings (machine.looked_up e) = 0
second_from rows rings (machine.sends e message) = 0
second_from rows rings (machine.receives e) = of_twelve (ring_at rings e) (lost_count (ring_at rings e)) 0
second_from rows rings (machine.lists_endpoints u) = 0
second_from rows rings (machine.lists_rights u) = row_bits rows u 8
second_from rows rings (machine.grants g h r) = 0
second_from rows rings (machine.removes g u r) = 0
second_from rows rings (machine.revokes g h r) = 0

-- the answer to a call with the first word w, by the decision on it
unfoldable pub answer_from : ℕ → List (List ℕ) → List ℕ → List ℕ → machine.Decision → List ℕ
answer_from w rows rings owned d =
    answer_word (one w) (code d) ∷ first_from rows rings owned d ∷ second_from rows rings d ∷ []

-- what a decision alters of a state: a holder's rights on a target, or the ring of an endpoint
unfoldable pub effect_from : List (List ℕ) → List ℕ → machine.Decision → Effect
effect_from rows rings (machine.refused n) = nothing
effect_from rows rings (machine.looked_up e) = nothing
effect_from rows rings (machine.sends e message) =
    new_endpoint e (of_twelve (ring_at rings e) (ring_sent (ring_at rings e) message) (ring_at rings e))
effect_from rows rings (machine.receives e) = new_endpoint e (of_twelve (ring_at rings e) (ring_take (ring_at rings e)) (ring_at rings e))
effect_from rows rings (machine.lists_endpoints u) = nothing
effect_from rows rings (machine.lists_rights u) = nothing
effect_from rows rings (machine.grants g h r) = new_rights h g (adds (held_in rows h g) r)
effect_from rows rings (machine.removes g u r) = new_rights u g (without (held_in rows u g) r)
effect_from rows rings (machine.revokes g h r) = new_rights h g (without (held_in rows h g) r)

-- the rows after an effect, and the rings; a place of a row has eight bits
unfoldable pub rows_after : List (List ℕ) → Effect → List (List ℕ)
rows_after rows nothing = rows
rows_after rows (new_rights h g s) = with_held rows h g (s % 256)
rows_after rows (new_endpoint e r) = rows

unfoldable pub rings_after : List ℕ → Effect → List ℕ
rings_after rings nothing = rings
rings_after rings (new_rights h g s) = rings
rings_after rings (new_endpoint e r) = with_ring rings e r
