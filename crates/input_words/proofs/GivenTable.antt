-- An input that begins with the bytes of a table gives that table, and what follows it. Assumes nothing.
use Prim.Native.Nat.{ℕ, ◌+◌, ◌*◌, ◌<◌, ◌^◌}
use mathlib.Core.Path.{◌≡◌, refl, ap, ◌∙◌}
use mathlib.Core.List.{List, ◌∷◌, ◌++◌}
use native.Mathlib.Omega.{arith}
use lib.ListN.{length, take, drop, length-append}
use lib.Seq.{take_all, drop_at}
use Rattle.input_words.specs.Bytes.{word_at, words_of, bytes_of, AllWords}
use Rattle.input_words.specs.TableInput.{table_length, table_of, after_table, with_length, TableWords}
use Rattle.input_words.proofs.WordLaws.{word-of-bytes, words_of-bytes_of, length-bytes_of, take-words_of-append}
use Rattle.input_words.proofs.TableLaws.{Whole}

-- words after the front of bytes, and the bytes after them
pub words-first : (ws rest : List ℕ) → AllWords ws → take (length ws) (words_of (bytes_of ws ++ rest)) ≡ ws
words-first ws rest words =
    take-words_of-append (length ws) (bytes_of ws) rest (omega (arith, length-bytes_of ws))
    ∙ ap (take (length ws)) (words_of-bytes_of ws words)
    ∙ take_all (length ws) ws (omega arith)

pub after-words : (ws rest : List ℕ) → drop (4 * length ws) (bytes_of ws ++ rest) ≡ rest
after-words ws rest = drop_at (bytes_of ws) rest (4 * length ws) (length-bytes_of ws)

-- a word at the front
pub first-word : (w : ℕ) (ws rest : List ℕ) → w < 2 ^ 32 → word_at (bytes_of (w ∷ ws) ++ rest) 0 ≡ w
unfolding bytes_of
first-word w ws rest small = word-of-bytes w small

pub after_first : (w : ℕ) (ws rest : List ℕ) → drop 4 (bytes_of (w ∷ ws) ++ rest) ≡ bytes_of ws ++ rest
unfolding bytes_of
after_first w ws rest = refl

module _ (t rest : List ℕ) (given : TableWords t) where
  long : length (with_length t ++ rest) ≡ 4 + 4 * length t + length rest
  unfolding with_length
  long = omega (arith, length-append (with_length t) rest, length-bytes_of (length t ∷ t))

  length-is : table_length (with_length t ++ rest) ≡ length t
  unfolding with_length
  length-is = first-word (length t) t rest (omega (arith, given.short))

  pub given-whole : Whole (with_length t ++ rest)
  given-whole =
      record { word = omega (arith, long); short = omega (arith, length-is, given.short); all = omega (arith, long, length-is) }

  pub given-table : table_of (with_length t ++ rest) ≡ t
  unfolding table_of with_length
  given-table =
      ap (λ n. take n (words_of (drop 4 (with_length t ++ rest)))) length-is
      ∙ ap (λ l. take (length t) (words_of l)) (after_first (length t) t rest)
      ∙ words-first t rest given.words

  pub given-rest : after_table (with_length t ++ rest) ≡ rest
  unfolding after_table with_length
  given-rest =
      ap (λ n. drop (4 + 4 * n) (with_length t ++ rest)) length-is
      ∙ drop_at (with_length t) rest (4 + 4 * length t) (omega (arith, length-bytes_of (length t ∷ t)))
