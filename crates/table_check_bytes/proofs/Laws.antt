-- What ties the code of a table in bytes to the machine's check of words (specs/Bytes: SameCode, LeftOver), what each code is for
-- (EveryBytesCode), and which codes there are (CodesOfBytes). Assumes nothing.
use mathlib.Core.Path.{◌≡◌, refl, sym, ap, ◌∙◌}
use mathlib.Core.Bool.{Bool, true, false, not, ◌||◌}
use mathlib.Core.Logic.{◌⊎◌, ◌⊎◌.inl, ◌⊎◌.inr}
use mathlib.Core.List.{List}
use Prim.Native.Nat.{ℕ, ◌*◌, ◌^◌, ◌<◌, ◌≤◌}
use native.Mathlib.Omega.{arith}
use borrow.Author.Tests.{eqb-true, eqb-false, eq-eqb, ne_eqb, lt-ltb}
use lib.Dec.{eqb, ltb}
use lib.ListN.{length, get_or}
use Rattle.machine.specs.Table.{domains, endpoints, length_for}
use Rattle.machine.specs.Check.{header_ok, length_ok, rights_ok, endpoints_ok, table_code}
use Rattle.machine.proofs.Bools.{cond-elim}
use Rattle.table_check.proofs.Places.{code-2, code-3}
use Rattle.input_words.specs.Bytes.{words_of, bytes_of}
use Rattle.input_words.proofs.WordLaws.{words_of-bytes_of, length-bytes_of}
use Rattle.table_check_bytes.specs.Bytes.{bytes_for, bytes_code, SameCode, LeftOver, EveryBytesCode, CodesOfBytes}
use Rattle.table_check_bytes.proofs.Places.{bytes_2, bytes-3, bytes-words}

pub left_over : LeftOver
unfolding bytes_for
left_over b h odd = sym (bytes-3 b h (ne_eqb (length b) (bytes_for (words_of b)) (λ e. odd (omega arith))))

pub every-bytes-code : EveryBytesCode
unfolding bytes_code
every-bytes-code b =
    record {
      short = λ l. rw (lt-ltb (length b) 4 l) refl;
      broken = λ h. sym (bytes_2 b h);
      other_length = λ h other. sym (bytes-3 b h (ne_eqb (length b) (bytes_for (words_of b)) other));
      by_words = λ h size. sym (bytes-words b (record { header = h; size = size }));
    }

pub codes-of-bytes : CodesOfBytes
unfolding bytes_code table_code
codes-of-bytes b =
    let refuses : (n : ℕ) → 2 ≤ n → n ≤ 5 → (n ≡ 0) ⊎ ((2 ≤ n) × (n ≤ 5)) = λ n l m. inr (l, m) in
    let P : ℕ → Type 0 = λ n. (n ≡ 0) ⊎ ((2 ≤ n) × (n ≤ 5)) in
    let t = words_of b in
    cond-elim P (ltb (length b) 4 || not (header_ok t)) (λ _. refuses 2 (omega arith) (omega arith))
    (λ _. cond-elim P (not (eqb (length b) (bytes_for t))) (λ _. refuses 3 (omega arith) (omega arith))
    (λ _. cond-elim P (not (header_ok t)) (λ _. refuses 2 (omega arith) (omega arith))
    (λ _. cond-elim P (not (length_ok t)) (λ _. refuses 3 (omega arith) (omega arith))
    (λ _. cond-elim P (not (rights_ok t)) (λ _. refuses 4 (omega arith) (omega arith))
    (λ _. cond-elim P (not (endpoints_ok t)) (λ _. refuses 5 (omega arith) (omega arith)) (λ _. inl refl))))))

times-four : (a k : ℕ) → eqb (4 * a) (4 * k) ≡ eqb a k
times-four a k = go (eqb a k) refl
  where
    go : (r : Bool) → eqb a k ≡ r → eqb (4 * a) (4 * k) ≡ r
    go true e = eq-eqb (4 * a) (4 * k) (let q = eqb-true a k e in omega arith)
    go false e = ne_eqb (4 * a) (4 * k) (λ q. eqb-false a k e (omega arith))

module _ (ws : List ℕ) (words : (i : ℕ) → get_or ws i 0 < 2 ^ 32) where
  back : words_of (bytes_of ws) ≡ ws
  back = words_of-bytes_of ws words

  -- the length of the bytes is valid where that of the words is
  sizes : eqb (length (bytes_of ws)) (bytes_for ws) ≡ length_ok ws
  unfolding length_ok bytes_for
  sizes = rw (length-bytes_of ws) (times-four (length ws) (length_for (domains ws) (endpoints ws)))

  agrees : bytes_code (bytes_of ws) ≡ table_code ws
  agrees = go (header_ok ws) refl (length_ok ws) refl
    where
      go : (h : Bool) → header_ok ws ≡ h → (l : Bool) → length_ok ws ≡ l → bytes_code (bytes_of ws) ≡ table_code ws
      go false h l e = sym (bytes_2 (bytes_of ws) (ap header_ok back ∙ h)) ∙ code-2 ws h
      go true h false e = sym (bytes-3 (bytes_of ws) (ap header_ok back ∙ h) (rw back (sizes ∙ e))) ∙ code-3 ws h e
      go true h true e =
          sym (bytes-words (bytes_of ws) (record { header = ap header_ok back ∙ h; size = eqb-true _ _ (rw back (sizes ∙ e)) }))
          ∙ ap table_code back

pub same_code : SameCode
same_code = agrees
