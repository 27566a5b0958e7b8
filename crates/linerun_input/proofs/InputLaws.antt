-- The reading stays within the program's buffer. Where it stops before the input ends, no further byte makes a difference to what
-- is refused or to the list. Assumes nothing.
use Prim.Native.Nat.{ℕ, ◌+◌, ◌-◌, ◌*◌, ◌≤◌, ◌<◌}
use mathlib.Core.Path.{◌≡◌, refl, ap, ◌∙◌}
use mathlib.Core.Bool.{Bool, true, false}
use mathlib.Core.List.{List, ◌++◌}
use borrow.Author.Tests.{le-ltb}
use native.Mathlib.Omega.{arith}
use lib.Dec.{lit≤}
use lib.ListN.{length, take, drop, length-append, length-take, length-drop}
use Rattle.machine.proofs.Bools.{or-none-left}
use Rattle.input_words.specs.Bytes.{words_of}
use Rattle.input_words.specs.TableInput.{table_end, no_table, after_table}
use Rattle.text.specs.Write.{Fills}
use Rattle.text.proofs.WriteLaws.{fills-cut, fills-front}
use Rattle.input_words.proofs.WordLaws.{take-words_of-append}
use Rattle.input_words.proofs.TableLaws.{Whole, whole, whole-table, table-within, whole-more, after_table-more, still-asks}
use Rattle.linerun_input.specs.Input.{list_words_read, most_input, list_of, left_over, unreadable, wanted}

-- the reading asks for no byte past the room for a longest table and a list one word too long
pub wanted-within : (bytes : List ℕ) → length bytes ≤ most_input → length bytes + wanted bytes ≤ most_input
unfolding wanted after_table
wanted-within bytes h = go (no_table bytes) refl
  where
    go : (b : Bool) → no_table bytes ≡ b → length bytes + wanted bytes ≤ most_input
    go true e = simp e (table-within bytes most_input (lit≤ tt) h)
    go false e =
        let w : Whole bytes = whole bytes e in
        simp e (omega (arith, w.short, w.all, length-drop (table_end bytes) bytes))

-- no more list words are read than that
pub length-list_of : (bytes : List ℕ) → length (list_of bytes) ≤ list_words_read
unfolding list_of
length-list_of bytes = omega (arith, length-take list_words_read (words_of (after_table bytes)))

-- what reading the list into a buffer for that many words left, as a part that is lent from the front on, is the list
pub list-part : (bytes : List ℕ) {buffer : List ℕ} {count : ℕ} {left : List ℕ} → length buffer ≡ list_words_read
    → Fills (words_of (after_table bytes)) buffer count left → take count left ≡ list_of bytes
unfolding list_of
list-part bytes room f = (fills-front (omega (arith, length-list_of bytes)) (fills-cut list_words_read (omega arith) f)).1

-- an input that 7 does not refuse has a whole table
pub readable-whole : (bytes : List ℕ) → unreadable bytes ≡ false → no_table bytes ≡ false
unfolding unreadable
readable-whole bytes e = or-none-left (no_table bytes) (left_over (after_table bytes)) e

-- a list that is one word too long has no bytes left over
pub no-left-over : (rest : List ℕ) → 4 * list_words_read ≤ length rest → left_over rest ≡ false
unfolding left_over
no-left-over rest h = simp (le-ltb _ _ h)

-- after a list that is one word too long, what follows makes no difference to it
pub list_of-more : (bytes more : List ℕ) → Whole bytes → 4 * list_words_read ≤ length (after_table bytes)
    → list_of (bytes ++ more) ≡ list_of bytes
unfolding list_of
list_of-more bytes more w h =
    ap (λ l. take list_words_read (words_of l)) (after_table-more bytes more w)
    ∙ take-words_of-append list_words_read (after_table bytes) more h

-- while fewer bytes follow than are wanted, more is wanted
pub still-wanted : (bytes more : List ℕ) → length more < wanted bytes → 0 < wanted (bytes ++ more)
unfolding wanted
still-wanted bytes more h = go (no_table bytes) refl
  where
    go : (b : Bool) → no_table bytes ≡ b → 0 < wanted (bytes ++ more)
    go true e = let still = still-asks bytes more (simp e at h) in simp still.0 still.1
    go false e =
        let w : Whole bytes = whole bytes e in
        simp (whole-table (bytes ++ more) (whole-more bytes more w), after_table-more bytes more w)
        (omega (arith, simp e at h, length-append (after_table bytes) more))
