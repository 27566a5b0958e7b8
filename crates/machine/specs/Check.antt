-- When a table is accepted, and the code of one that is not: 2 to 5 (document 01, 'The table' and 'Where each number is
-- checked'). There is one test for each kind of word. An endpoint's words are its identity (name, info) and its queue
-- (waiting, lost, slots).
use Rattle.std.specs.Prelude.{ℕ, ◌+◌, ◌*◌, ◌≡◌, Bool, cond, not, ◌&&◌, ◌||◌, List, length, get_or, eqb, leb, ltb}
use Rattle.machine.specs.Below.{all_below}
use Rattle.machine.specs.Word.{kind, payload, upper, field_b, field_c}
use Rattle.machine.specs.Right.{all_rights}
use Rattle.machine.specs.Table.{domains, endpoints, length_for, endpoint}
use Rattle.machine.specs.Queue.{name, capacity, waiting, empty_slot}

-- word 0: kind 1, bits 27–16 zero, 1 to 16 domains, at most 32 endpoints
unfoldable pub header_word_ok : ℕ → Bool
header_word_ok w = eqb (kind w) 1 && eqb (upper w) 0 && leb 1 (field_b w) && leb (field_b w) 16 && leb (field_c w) 32

-- a rights word: kind 2, no bit set above the rights
unfoldable pub rights_word_ok : ℕ → Bool
rights_word_ok w = eqb (kind w) 2 && leb (payload w) all_rights

-- an endpoint's name: kind 3, not zero
unfoldable pub name_word_ok : ℕ → Bool
name_word_ok w = eqb (kind w) 3 && not (eqb (payload w) 0)

-- its info, among n domains: kind 4, bits 27–16 zero, the owner below n, the capacity 1 to 8
unfoldable pub info_word_ok : ℕ → ℕ → Bool
info_word_ok n w = eqb (kind w) 4 && eqb (upper w) 0 && ltb (field_b w) n && leb 1 (field_c w) && leb (field_c w) 8

-- its waiting count, at a capacity: kind 5, at most the capacity
unfoldable pub waiting_word_ok : ℕ → ℕ → Bool
waiting_word_ok most w = eqb (kind w) 5 && leb (payload w) most

-- its lost count: kind 6
unfoldable pub lost_word_ok : ℕ → Bool
lost_word_ok w = eqb (kind w) 6

-- slot i while count messages wait: kind 15, and empty from the count on
unfoldable pub slot_word_ok : ℕ → ℕ → ℕ → Bool
slot_word_ok count i w = eqb (kind w) 15 && (ltb i count || eqb w empty_slot)

-- an endpoint's identity, among n domains: its name and info
unfoldable pub identity_ok : ℕ → List ℕ → Bool
identity_ok n q = name_word_ok (get_or q 0 0) && info_word_ok n (get_or q 1 0)

-- its queue: waiting, lost and the eight slots
unfoldable pub queue_ok : List ℕ → Bool
queue_ok q =
    waiting_word_ok (capacity q) (get_or q 2 0)
    && lost_word_ok (get_or q 3 0)
    && all_below 8 (λ i. slot_word_ok (waiting q) i (get_or q (4 + i) 0))

-- all its twelve words, among n domains
unfoldable pub endpoint_ok : ℕ → List ℕ → Bool
endpoint_ok n q = identity_ok n q && queue_ok q

-- no endpoint before e has the name of e
unfoldable pub name_new : List ℕ → ℕ → Bool
name_new t e = all_below e (λ f. not (eqb (name (endpoint t f)) (name (endpoint t e))))

-- what each of the places 2 to 5 requires of a table
unfoldable pub header_ok : List ℕ → Bool
header_ok t = not (eqb (length t) 0) && header_word_ok (get_or t 0 0)

unfoldable pub length_ok : List ℕ → Bool
length_ok t = eqb (length t) (length_for (domains t) (endpoints t))

unfoldable pub rights_ok : List ℕ → Bool
rights_ok t = all_below (domains t * domains t) (λ i. rights_word_ok (get_or t (1 + i) 0))

unfoldable pub endpoints_ok : List ℕ → Bool
endpoints_ok t = all_below (endpoints t) (λ e. endpoint_ok (domains t) (endpoint t e) && name_new t e)

-- the first failing place decides; 0 where none fails
unfoldable pub table_code : List ℕ → ℕ
table_code t =
    cond (not (header_ok t)) 2
    (cond (not (length_ok t)) 3 (cond (not (rights_ok t)) 4 (cond (not (endpoints_ok t)) 5 0)))

-- a table is accepted when none of the places 2 to 5 refuses it
abbrev pub Accepted : List ℕ → Type 0
Accepted t = table_code t ≡ 0
