-- Claims about single words, in closed statements: which words make a call, what is in the words of an answer, how long a table is,
-- and which of its words a call alters. Each is the type of a theorem in proofs/WordClaims.
use Rattle.std.specs.Prelude.{ℕ, ◌+◌, ◌-◌, ◌/◌, ◌%◌, ◌^◌, ◌<◌, ◌≤◌, ◌≡◌, true, false, List, [], ◌∷◌, ◌++◌, map, eqb, length, get_or, take, drop, set}
use Rattle.machine.specs.Below.{has_bit}
use Rattle.machine.specs.Word.{kind, word, caller, field_a, answer_code}
use Rattle.machine.specs.Table.{domains, endpoints, rights_at, endpoint_at, rights, endpoint}
use Rattle.machine.specs.Queue.{owner, waiting, empty_slot, received}
use Rattle.machine.specs.Check.{endpoint_ok, Accepted}
use Rattle.machine.specs.Call.{Call, first, call_kind, split, width, words_of}
use Rattle.machine.specs.Machine.{Decision, places_of, decide, step, owned_bits, rights_bits, shown_caller, answer_word, answer}
use Rattle.machine.specs.Machine.{Decision.refused, Decision.looked_up, Decision.sends, Decision.receives, Decision.lists_endpoints, Decision.lists_rights, Decision.grants, Decision.removes, Decision.revokes}
use Rattle.machine.specs.MachineClaims.{none_refuses}

-- ---- the split of a list

-- "This cutting looks at kinds only" (document 01, 'The calls'): of two lists with the same kinds, word by word, the calls have the
-- same numbers of words.
abbrev pub EverySplitByKinds : Type 0
EverySplitByKinds = (ws vs : List ℕ) → map kind ws ≡ map kind vs → map width (split ws) ≡ map width (split vs)

-- The words of the calls, in order, are those of the list: the split loses none and adds none.
abbrev pub EverySplitKeepsWords : Type 0
EverySplitKeepsWords = (ws : List ℕ) → words_of (split ws) ≡ ws

-- ---- the words of an answer

-- "Where none fails, the code is 0" (document 01, 'The striking rule'), on any table.
abbrev pub EveryUnrefusedAnsweredZero : Type 0
EveryUnrefusedAnsweredZero =
    (t : List ℕ) (c : Call) → none_refuses (call_kind c) (places_of t c) ≡ true → get_or (answer t c) 0 0 ≡ answer_word c 0

-- An answer's first word with the code n, field by field: the call's kind, the caller as found and 0 for a stray, zero in bits
-- 21–16, and the code.
pub record AnswerFields (c : Call) (n : ℕ) : Type 0 where
  pub of_kind : kind (answer_word c n) ≡ kind (first c)
  pub of_caller : caller (answer_word c n) ≡ shown_caller c
  pub of_rest : field_a (answer_word c n) ≡ 0
  pub of_code : answer_code (answer_word c n) ≡ n

-- "The call's kind in bits 31–28, caller in bits 27–22 as found, code in bits 15–0, the rest zero" (document 01, 'The calls'), for
-- every code of 16 bits.
abbrev pub EveryAnswerWord : Type 0
EveryAnswerWord = (c : Call) (n : ℕ) → n < 65536 → AnswerFields c n

-- "Bit e is set for each endpoint e owned" (document 01, 'The calls'), and no other bit, in any words.
pub record OwnedBits (t : List ℕ) (u : ℕ) : Type 0 where
  pub owned : (e : ℕ) → e < endpoints t → has_bit (owned_bits t u) e ≡ eqb (owner (endpoint t e)) u
  pub no_other : (e : ℕ) → endpoints t ≤ e → has_bit (owned_bits t u) e ≡ false

abbrev pub EveryOwnedBits : Type 0
EveryOwnedBits = (t : List ℕ) (u : ℕ) → OwnedBits t u

-- "Rights on target t in bits 4t to 4t+3 of the first data word; targets 8 to 15 likewise in the second" (document 01, 'The
-- calls'): digit i to the base 16 of the word for the targets from g on is u's rights on g + i, and 0 where that is no domain.
pub record RightsDigits (t : List ℕ) (u g : ℕ) : Type 0 where
  pub held : (i : ℕ) → i < 8 → g + i < domains t → rights_bits t u g / 16 ^ i % 16 ≡ rights t u (g + i)
  pub none : (i : ℕ) → i < 8 → domains t ≤ g + i → rights_bits t u g / 16 ^ i % 16 ≡ 0

abbrev pub EveryRightsDigits : Type 0
EveryRightsDigits = (t : List ℕ) (u g : ℕ) → Accepted t → u < domains t → RightsDigits t u g

-- ---- the words of a table

-- "So at most 641" (document 01, 'The table').
abbrev pub EveryAcceptedShort : Type 0
EveryAcceptedShort = (t : List ℕ) → Accepted t → length t ≤ 641

-- "Every answer and every table word is the same as before" (document 02 (d)): of twelve words that are an endpoint's among n
-- domains, with a message waiting, a receive leaves what it leaves where all the slots after the first move up.
abbrev pub EveryReceiveAsBefore : Type 0
EveryReceiveAsBefore =
    (n : ℕ) (q : List ℕ)
    → length q ≡ 12
    → endpoint_ok n q ≡ true
    → 1 ≤ waiting q
    → received q ≡ set (take 4 q ++ (drop 5 q ++ (empty_slot ∷ []))) 2 (word 5 (waiting q - 1))

-- the place i is that of a waiting, lost or slot word of the endpoint e
pub record QueuePlace (t : List ℕ) (e i : ℕ) : Type 0 where
  pub k : ℕ
  pub after_info : 2 ≤ k
  pub within : k < 12
  pub place : i ≡ endpoint_at (domains t) e + k

-- the row of a decision names the word at the place i: a send and a receive their endpoint's waiting, lost and slot words, a grant,
-- a remove and a revoke one rights word
abbrev pub Names : List ℕ → ℕ → Decision → Type 0
Names t i (refused n) = ⊥
Names t i (looked_up e) = ⊥
Names t i (sends e message) = QueuePlace t e i
Names t i (receives e) = QueuePlace t e i
Names t i (lists_endpoints u) = ⊥
Names t i (lists_rights u) = ⊥
Names t i (grants g h r) = i ≡ rights_at (domains t) h g
Names t i (removes g u r) = i ≡ rights_at (domains t) u g
Names t i (revokes g h r) = i ≡ rights_at (domains t) h g

-- "Grant and remove alter one rights word; what a row doesn't name stays" (document 01, 'The striking rule'): a word that a call on
-- an accepted table alters is one that its row names.
abbrev pub EveryCallAltersNamed : Type 0
EveryCallAltersNamed =
    (t : List ℕ) (c : Call) (i : ℕ) → Accepted t → (get_or (step t c) i 0 ≡ get_or t i 0 → ⊥) → Names t i (decide t c)
