-- The words of a call's answer, as an iteration over chunks of three words has them: those from word 3 i on. Assumes nothing.
use Rattle.std.proofs.Common.{ℕ, ◌+◌, ◌*◌, ◌<◌, ◌≤◌, ◌≡◌, List, ◌++◌, length, take, drop, sym, ap, ◌∙◌, arith, length-drop, length-append}
use lib.ListN.{get_or}
use Rattle.std.proofs.lemmas.List.{get_or-take, get_or-drop, get_or_append_left, drop-drop}
use Rattle.std.proofs.Math.Seq.{drop-append_seam}
use Rattle.linerun_text.specs.Lines.{call_line}
use Rattle.linerun_report.specs.Lines.{line_of}

-- a chunk of three at the front of what is left
module _ (words chunk rest : List ℕ) (k : ℕ) (left : drop (3 * k) words ≡ chunk ++ rest) (size : length chunk ≡ 3) where
  pub rest-is : rest ≡ drop (3 * (k + 1)) words
  rest-is =
      sym (drop-append_seam chunk rest)
      ∙ ap (drop (length chunk)) (sym left)
      ∙ ap (λ n. drop n (drop (3 * k) words)) size
      ∙ drop-drop 3 (3 * k) words
      ∙ ap (λ n. drop n words) (omega arith)

  pub within : 3 * k + 3 ≤ length words
  within = omega (arith, ap length left, length-append chunk rest, length-drop (3 * k) words)

  -- its words, where all of them are so many of the answers' from one call on
  pub word_is : (answers : List ℕ) (from n j : ℕ) → words ≡ take n (drop (3 * from) answers) → length words ≤ n → j < 3
      → get_or chunk j 0 ≡ get_or answers (3 * (from + k) + j) 0
  word_is answers from n j is few h =
      sym (get_or_append_left chunk rest 0 j (omega arith))
      ∙ ap (λ l. get_or l j 0) (sym left)
      ∙ get_or-drop (3 * k) words j 0
      ∙ ap (λ l. get_or l (3 * k + j) 0) is
      ∙ get_or-take n (drop (3 * from) answers) (3 * k + j) 0 (omega (arith, within))
      ∙ get_or-drop (3 * from) answers (3 * k + j) 0
      ∙ ap (λ n. get_or answers n 0) (omega arith)

  -- so its line is that of the call
  pub line-is : (answers : List ℕ) (from n i : ℕ) → words ≡ take n (drop (3 * from) answers) → length words ≤ n → i ≡ from + k
      → call_line i (get_or chunk 0 0) (get_or chunk 1 0) (get_or chunk 2 0) ≡ line_of answers (from + k)
  line-is answers from n i is few same =
      let word = λ (j : ℕ) (h : j < 3). word_is answers from n j is few h in
      let first : get_or chunk 0 0 ≡ get_or answers (3 * (from + k)) 0 = word 0 (omega arith) ∙ ap (λ m. get_or answers m 0) (omega arith) in
      simp (same, first, word 1 (omega arith), word 2 (omega arith))
