-- The words of a table and the bytes after it, as parts of the input that end where the input ends at the latest.
-- Assumes nothing.
use Prim.Native.Nat.{ℕ, ◌+◌, ◌-◌, ◌*◌, ◌≤◌, ◌<◌, min}
use mathlib.Core.Path.{◌≡◌, refl, sym, ap, ◌∙◌}
use mathlib.Core.Bool.{Bool, true, false, ◌||◌}
use mathlib.Core.List.{List, [], ◌++◌}
use borrow.Author.Tests.{lt-ltb, le-ltb, ltb-true, ltb-false}
use native.Mathlib.Decide.{dec_le}
use native.Mathlib.Omega.{arith}
use lib.Dec.{ltb}
use lib.ListN.{length, take, drop, length-append, length-take, length-drop, drop_of_length-le}
use lib.Seq.{take_all, take-nil, drop-append-le}
use Rattle.machine.proofs.Bools.{or-none-left, or-none-right}
use Rattle.input_words.specs.Bytes.{words_of}
use Rattle.input_words.specs.TableInput.{longest_table, table_length, table_end, no_table, table_of, after_table, table_wanted}
use Rattle.text.specs.Write.{Fills}
use Rattle.input_words.proofs.WordLaws.{length-words_of, take-words_of, word_at-append, take-words_of-append}
use Rattle.text.proofs.WriteLaws.{overwrite-none}

-- the part of the input from its fifth byte to the table's end has the table's words
pub table-part : (bytes : List ℕ) (end : ℕ) → end ≡ min (table_end bytes) (length bytes)
    → words_of (take (end - 4) (drop 4 bytes)) ≡ table_of bytes
unfolding table_of
table-part bytes end e = go (dec_le (table_end bytes) (length bytes))
  where
    go : Dec (table_end bytes ≤ length bytes) → words_of (take (end - 4) (drop 4 bytes)) ≡ take (table_length bytes) (words_of (drop 4 bytes))
    go (yes h) =
        let whole : end - 4 ≡ 4 * table_length bytes = omega arith in
        ap (λ k. words_of (take k (drop 4 bytes))) whole ∙ take-words_of (table_length bytes) (drop 4 bytes)
    go (no h) =
        ap words_of (take_all (end - 4) (drop 4 bytes) (omega (arith, length-drop 4 bytes)))
        ∙ sym (take_all (table_length bytes) (words_of (drop 4 bytes)) (omega (arith, length-words_of (drop 4 bytes), length-drop 4 bytes)))

-- an input of under 4 bytes has no table's words
no_words : (bytes : List ℕ) → length bytes < 4 → table_of bytes ≡ []
unfolding table_of words_of
no_words bytes h =
    ap (λ l. take (table_length bytes) (words_of l)) (drop_of_length-le bytes {i = 4} (omega arith))
    ∙ take-nil (table_length bytes)

pub fills_none : (bytes table : List ℕ) → length bytes < 4 → Fills (table_of bytes) table 0 table
fills_none bytes table h =
    rw (no_words bytes h) (record { count-is = omega arith; items-are = sym (overwrite-none 0 table) })

-- an index capped at the input's length gives the same bytes from it on, since there are none past the end
drop-capped : (start n : ℕ) (bytes : List ℕ) → start ≡ min n (length bytes) → drop start bytes ≡ drop n bytes
drop-capped start n bytes e = go (dec_le n (length bytes))
  where
    go : Dec (n ≤ length bytes) → drop start bytes ≡ drop n bytes
    go (yes h) = let same : start ≡ n = omega arith in ap (λ k. drop k bytes) same
    go (no h) = drop_of_length-le bytes {i = start} (omega arith) ∙ sym (drop_of_length-le bytes {i = n} (omega arith))

-- the part of the input from the table's end on
pub rest_part : (bytes : List ℕ) (start : ℕ) → start ≡ min (table_end bytes) (length bytes)
    → take (length bytes - start) (drop start bytes) ≡ after_table bytes
unfolding after_table
rest_part bytes start e =
    take_all (length bytes - start) (drop start bytes) (omega (arith, length-drop start bytes))
    ∙ drop-capped start (table_end bytes) bytes e

-- what it means that the input has a whole table
pub record Whole (bytes : List ℕ) : Type 0 where
  pub word : 4 ≤ length bytes
  pub short : table_length bytes ≤ longest_table
  pub all : table_end bytes ≤ length bytes

pub whole : (bytes : List ℕ) → no_table bytes ≡ false → Whole bytes
unfolding no_table
whole bytes e =
    let a = ltb (length bytes) 4 in
    let b = ltb longest_table (table_length bytes) in
    let d = ltb (length bytes) (table_end bytes) in
    let neither = or-none-left (a || b) d e in
    record {
      word = ltb-false (length bytes) 4 (or-none-left a b neither);
      short = ltb-false longest_table (table_length bytes) (or-none-right a b neither);
      all = ltb-false (length bytes) (table_end bytes) (or-none-right (a || b) d e);
    }

pub whole-table : (bytes : List ℕ) → Whole bytes → no_table bytes ≡ false
unfolding no_table
whole-table bytes w = simp (le-ltb _ _ w.word, le-ltb _ _ w.short, le-ltb _ _ w.all)

pub length-table_of : (bytes : List ℕ) → Whole bytes → length (table_of bytes) ≤ longest_table
unfolding table_of
length-table_of bytes w = omega (arith, w.short, length-take (table_length bytes) (words_of (drop 4 bytes)))

-- the three cases of asking for more: the length word, nothing after one that is too large, and the table
data Asks (bytes : List ℕ) : Type 0 where
  word : length bytes < 4 → table_wanted bytes ≡ 4 - length bytes → Asks bytes
  nothing : 4 ≤ length bytes → longest_table < table_length bytes → table_wanted bytes ≡ 0 → Asks bytes
  table : 4 ≤ length bytes → table_length bytes ≤ longest_table → table_wanted bytes ≡ table_end bytes - length bytes → Asks bytes

asks : (bytes : List ℕ) → Asks bytes
unfolding table_wanted
asks bytes = go (ltb (length bytes) 4) (ltb longest_table (table_length bytes)) refl refl
  where
    go : (a b : Bool) → ltb (length bytes) 4 ≡ a → ltb longest_table (table_length bytes) ≡ b → Asks bytes
    go true b e f = word (ltb-true (length bytes) 4 e) (simp e)
    go false true e f =
        nothing (ltb-false (length bytes) 4 e) (ltb-true longest_table (table_length bytes) f) (simp (e, f))
    go false false e f =
        table (ltb-false (length bytes) 4 e) (ltb-false longest_table (table_length bytes) f) (simp (e, f))

-- the reading asks for no byte past the longest table
pub table-within : (bytes : List ℕ) (most : ℕ) → 4 + 4 * longest_table ≤ most → length bytes ≤ most
    → length bytes + table_wanted bytes ≤ most
table-within bytes most room h = go (asks bytes)
  where
    go : Asks bytes → length bytes + table_wanted bytes ≤ most
    go (word short e) = omega arith
    go (nothing some long e) = omega arith
    go (table some fits e) = omega arith

-- where it asks for nothing more and there is no table, the length word is too large
pub no_more : (bytes : List ℕ) → no_table bytes ≡ true → table_wanted bytes ≡ 0
    → (4 ≤ length bytes) × (longest_table < table_length bytes)
no_more bytes none done = go (asks bytes)
  where
    go : Asks bytes → (4 ≤ length bytes) × (longest_table < table_length bytes)
    go (word short e) = absurd (omega arith)
    go (nothing some long e) = (some, long)
    go (table some fits e) =
        let absent : ◌≡◌ {A = Bool} true false =
        sym none ∙ whole-table bytes (record { word = some; short = fits; all = omega arith }) in
        let zero_one : ◌≡◌ {A = ℕ} 0 1 = cc in
        absurd (omega arith)

-- Bytes that follow: they make no difference to a length word that is there, nor to a table that is whole.
module _ (bytes more : List ℕ) where
  length_more : length (bytes ++ more) ≡ length bytes + length more
  length_more = length-append bytes more

  table_length-more : 4 ≤ length bytes → table_length (bytes ++ more) ≡ table_length bytes
  table_length-more h = word_at-append bytes more 0 (omega arith)

  pub no-table-more : 4 ≤ length bytes → longest_table < table_length bytes → no_table (bytes ++ more) ≡ true
  unfolding no_table
  no-table-more h long =
      let word : 4 ≤ length (bytes ++ more) = omega (arith, length_more) in
      let above : longest_table < table_length (bytes ++ more) = omega (arith, table_length-more h) in
      simp (le-ltb _ _ word, lt-ltb _ _ above)

  pub whole-more : Whole bytes → Whole (bytes ++ more)
  whole-more w =
      record {
        word = omega (arith, length_more, w.word);
        short = omega (arith, table_length-more w.word, w.short);
        all = omega (arith, table_length-more w.word, length_more, w.all);
      }

  pub table_of-more : Whole bytes → table_of (bytes ++ more) ≡ table_of bytes
  unfolding table_of
  table_of-more w =
      ap (λ n. take n (words_of (drop 4 (bytes ++ more)))) (table_length-more w.word)
      ∙ ap (λ l. take (table_length bytes) (words_of l)) (drop-append-le 4 bytes more w.word)
      ∙ take-words_of-append (table_length bytes) (drop 4 bytes) more (omega (arith, length-drop 4 bytes, w.all))

  pub after_table-more : Whole bytes → after_table (bytes ++ more) ≡ after_table bytes ++ more
  unfolding after_table
  after_table-more w =
      ap (λ n. drop (4 + 4 * n) (bytes ++ more)) (table_length-more w.word)
      ∙ drop-append-le (table_end bytes) bytes more w.all

  -- while fewer bytes follow than are asked for, more is asked for
  pub still-asks : length more < table_wanted bytes → (no_table (bytes ++ more) ≡ true) × (0 < table_wanted (bytes ++ more))
  unfolding no_table table_wanted
  still-asks h = go (asks bytes)
    where
      go : Asks bytes → (no_table (bytes ++ more) ≡ true) × (0 < table_wanted (bytes ++ more))
      go (word short e) =
          let still : length (bytes ++ more) < 4 = omega (arith, length_more) in
          (simp (lt-ltb _ _ still), simp (lt-ltb _ _ still) (omega arith))
      go (nothing some long e) = absurd (omega arith)
      go (table some fits e) =
          let word : 4 ≤ length (bytes ++ more) = omega (arith, length_more) in
          let fits_more : table_length (bytes ++ more) ≤ longest_table = omega (arith, table_length-more some) in
          let still : length (bytes ++ more) < table_end (bytes ++ more) = omega (arith, length_more, table_length-more some) in (
            simp (le-ltb _ _ word, le-ltb _ _ fits_more, lt-ltb _ _ still),
            simp (le-ltb _ _ word, le-ltb _ _ fits_more) (omega arith),
          )
