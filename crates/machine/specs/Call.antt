-- A call is its one or two words and nothing else. Here are the split of a list into calls, the kinds of call, and what the
-- places 13 and 14 test, which need no table (document 01, 'The calls' and 'Where each number is checked').
use Rattle.std.specs.Prelude.{ℕ, Bool, true, false, cond, ◌&&◌, ◌||◌, List, [], ◌∷◌, eqb}
use Rattle.std.proofs.Math.Option.{Option, none, some}
use Rattle.machine.specs.Word.{kind, payload, caller, field_a, field_b, field_c}

-- A call: its one word, or its two in their order.
pub data Call : Type 0 where
  one : ℕ → Call
  two : ℕ → ℕ → Call

-- a call's first word
unfoldable pub first : Call → ℕ
first (one w) = w
first (two w v) = w

-- kinds 1 and 2, look up and send, need a second word
unfoldable pub wants_second : ℕ → Bool
wants_second k = eqb k 1 || eqb k 2

-- w and v, one directly after the other, make one call of both
unfoldable pub pairs : ℕ → ℕ → Bool
pairs w v = wants_second (kind w) && eqb (kind v) 15

-- The split: a word of kind 1 or 2 directly followed by a word of kind 15 makes one call of both. Every other word is a call
-- of one word.
unfoldable pub split : List ℕ → List Call
split [] = []
split (w ∷ []) = one w ∷ []
split (w ∷ v ∷ ws) = cond (pairs w v) (two w v ∷ split ws) (one w ∷ split (v ∷ ws))

-- how many words a call has
unfoldable pub width : Call → ℕ
width (one w) = 1
width (two w v) = 2

-- the words of calls, in their order
unfoldable pub words_of : List Call → List ℕ
words_of [] = []
words_of (one w ∷ cs) = w ∷ words_of cs
words_of (two w v ∷ cs) = w ∷ (v ∷ words_of cs)

-- the eight calls, a word of kind 15 that begins a call (document 01: a stray), and the unknown kinds
pub data Kind : Type 0 where
  look_up send receive my_endpoints my_rights grant remove revoke stray unknown : Kind

-- a kind by its number, for comparing; the unknown ones are 0
unfoldable pub kind_number : Kind → ℕ
kind_number look_up = 1
kind_number send = 2
kind_number receive = 3
kind_number my_endpoints = 4
kind_number my_rights = 5
kind_number grant = 6
kind_number remove = 7
kind_number revoke = 8
kind_number stray = 15
kind_number unknown = 0

-- a kind is among some kinds
unfoldable pub one_of : Kind → List Kind → Bool
one_of k [] = false
one_of k (other ∷ others) = eqb (kind_number k) (kind_number other) || one_of k others

-- which of these a word of kind k begins
unfoldable pub kind_of : ℕ → Kind
kind_of k =
    cond (eqb k 1) look_up
    (cond (eqb k 2) send
    (cond (eqb k 3) receive
    (cond (eqb k 4) my_endpoints
    (cond (eqb k 5) my_rights
    (cond (eqb k 6) grant (cond (eqb k 7) remove (cond (eqb k 8) revoke (cond (eqb k 15) stray unknown))))))))

-- a call's kind is that of its first word
unfoldable pub call_kind : Call → Kind
call_kind c = kind_of (kind (first c))

-- a call's caller is the index in bits 27–22 of its first word; a stray has none
unfoldable pub caller_of : Call → Option ℕ
caller_of c = cond (eqb (kind (first c)) 15) none (some (caller (first c)))

-- the fields of the first word w that a call of a kind doesn't use
unfoldable pub unused_fields : Kind → ℕ → List ℕ
unused_fields look_up w = field_a w ∷ field_b w ∷ field_c w ∷ []
unused_fields send w = field_a w ∷ field_c w ∷ []
unused_fields receive w = field_a w ∷ field_c w ∷ []
unused_fields my_endpoints w = field_a w ∷ field_b w ∷ field_c w ∷ []
unused_fields my_rights w = field_a w ∷ field_b w ∷ field_c w ∷ []
unused_fields grant w = []
unused_fields remove w = field_b w ∷ []
unused_fields revoke w = []
unused_fields stray w = []
unused_fields unknown w = []

-- every one of some fields is zero
unfoldable pub all_zero : List ℕ → Bool
all_zero [] = true
all_zero (x ∷ xs) = eqb x 0 && all_zero xs

-- a call has a second word
unfoldable pub has_second : Call → Bool
has_second (one w) = false
has_second (two w v) = true

-- what a call's second word holds in bits 27–0: the name of a look up, the message of a send
unfoldable pub second_payload : Call → ℕ
second_payload (one w) = 0
second_payload (two w v) = payload v
