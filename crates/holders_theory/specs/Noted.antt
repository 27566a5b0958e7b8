-- What becomes of the holders (document 02 (h)): they are computed from a table, and each change of rights is noted in them.
-- Total: accepts arbitrary words.
use Rattle.std.specs.Prelude.{ℕ, ◌-◌, ◌*◌, ◌^◌, Bool, cond, ◌&&◌, List, [], ◌∷◌, eqb, leb, ltb, length, get_or, set, take}
use Rattle.std.specs.Int.Bits.{bit_and, bit_or}
use Rattle.machine.specs.Right.{has_any}
use Rattle.machine.specs.Table.{domains}
use Rattle.machine.specs.Call.{Call, split, words_of}
use Rattle.machine.specs.Machine.{Effect, decide, effect, step, Effect.nothing, Effect.new_rights, Effect.new_endpoint}
use Rattle.machine.specs.Holders.{holders_of}

-- bit i of the word w, set where b holds, else cleared
unfoldable pub with_bit : ℕ → ℕ → Bool → ℕ
with_bit w i b = cond b (bit_or w (2 ^ i)) (w - bit_and w (2 ^ i))

-- the words p once the rights of h on g have become s: bit h of word g says whether any is left. Where there is no word g, or
-- no bit h in a word, p as it is
unfoldable pub noted : List ℕ → ℕ → ℕ → ℕ → List ℕ
noted p h g s = cond (ltb h 32 && ltb g (length p)) (set p g (with_bit (get_or p g 0) h (has_any s))) p

-- there are n domains, at most 16, as many words are lent, and a table of that size has all their rights words
unfoldable pub room_for : ℕ → ℕ → ℕ → Bool
room_for n size lent = leb n 16 && eqb lent n && ltb (n * n) size

-- the words p once they are computed from the table t, or p as it is where it doesn't have one word for each of at most 16
-- domains, or the table lacks rights words
unfoldable pub filled : List ℕ → List ℕ → List ℕ
filled t p = cond (room_for (domains t) (length t) (length p)) (holders_of t) p

-- the words p after an effect of the machine: new rights are noted, and nothing else alters them
unfoldable pub holders_after : List ℕ → Effect → List ℕ
holders_after p nothing = p
holders_after p (new_rights h g s) = noted p h g s
holders_after p (new_endpoint e q) = p

-- the words p after the calls, each noted on the table that it finds, the first on t
unfoldable pub holders_after_calls : List ℕ → List ℕ → List Call → List ℕ
holders_after_calls p t [] = p
holders_after_calls p t (c ∷ cs) = holders_after_calls (holders_after p (effect t (decide t c))) (step t c) cs

-- the words of the first k calls of a list
unfoldable pub first_words : ℕ → List ℕ → List ℕ
first_words k ws = words_of (take k (split ws))
