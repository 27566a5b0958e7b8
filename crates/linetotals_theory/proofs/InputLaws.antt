-- What holds of any input (specs/Claims): how many lists it gives, which codes there are, and that nothing after a refusal matters.
-- Assumes nothing.
use Prim.Native.Nat.{ℕ, zero, suc, ◌+◌, ◌*◌, ◌<◌, ◌≤◌}
use mathlib.Core.Path.{◌≡◌, refl, sym, subst}
use mathlib.Core.Bool.{Bool, true, false, not}
use mathlib.Core.Logic.{◌⊎◌, ◌⊎◌.inl, ◌⊎◌.inr}
use mathlib.Core.List.{List, ◌++◌}
use borrow.Author.Tests.{lt-ltb, le-ltb, ne_eqb, eqb-true}
use native.Mathlib.Decide.{dec_lt}
use native.Mathlib.Omega.{arith}
use lib.Dec.{eqb}
use lib.ListN.{length, take, drop}
use Rattle.machine.specs.Check.{header_ok, length_ok, rights_ok, endpoints_ok, table_code, Accepted}
use Rattle.machine.specs.Entry.{longest_list}
use Rattle.machine.proofs.Bools.{cond-elim}
use Rattle.input_words.specs.Bytes.{word_at, words_of}
use Rattle.input_words.specs.TableInput.{longest_table, table_length, no_table, table_of, after_table, table_wanted}
use Rattle.linetotals_input.specs.Input.{most_lists, Lists, stopped, then, head_wanted, lists_from, lists_of, wanted}
use Rattle.linetotals_input.proofs.ListLaws.{Front, none, many, cut_word, long, list, front, from_list, list-cut, list-whole}
use Rattle.linetotals_theory.specs.Sheet.{table_sheet, sheet}
use Rattle.linetotals_theory.specs.Claims.{EveryInputFew, EveryCode, EveryRefusalFinal}
use Rattle.linetotals_theory.proofs.SheetLaws.{nothing-follows}

-- What the lists of any bytes have, of which so many may come: it holds where no list follows, and of a list and the others where it
-- holds of these.
module _ (P : ℕ → Lists → Type 0)
    (ends : (left : ℕ) → P left (stopped 0 (head_wanted left)))
    (refused : (left : ℕ) → P left (stopped 1 0))
    (cut : (left more : ℕ) → P left (stopped 7 more))
    (one : (left : ℕ) (ws : List ℕ) (others : Lists) → P left others → P (suc left) (then ws others)) where
  of-lists : (left : ℕ) (bytes : List ℕ) → P left (lists_from left bytes)
  of-lists zero bytes = go (front zero bytes)
    where
      go : Front bytes 0 → P 0 (lists_from 0 bytes)
      go (none _ e) = rw e (ends 0)
      go (many _ e) = rw e (refused 0)
  of-lists (suc left) bytes = go (of-lists left) (front (suc left) bytes)
    where
      Afterwards : Type 0
      Afterwards = (xs : List ℕ) → P left (lists_from left xs)

      first : Afterwards → (n : ℕ) (xs : List ℕ) → Dec (length xs < 4 * n) → P (suc left) (from_list left n xs)
      first behind n xs (yes h) = rw (list-cut left n xs h) (cut (suc left) _)
      first behind n xs (no h) = rw (list-whole left n xs (omega arith)) (one left (take n (words_of xs)) _ (behind (drop (4 * n) xs)))

      go : Afterwards → Front bytes (suc left) → P (suc left) (lists_from (suc left) bytes)
      go behind (none _ e) = rw e (ends (suc left))
      go behind (cut_word _ _ e) = rw e (cut (suc left) _)
      go behind (long _ _ e) = rw e (refused (suc left))
      go behind (list _ _ e) = rw e (first behind (word_at bytes 0) (drop 4 bytes) (dec_lt _ _))

pub input-few : EveryInputFew
unfolding stopped then
input-few bytes =
    of-lists (λ left x. length x.lists ≤ left) (λ left. omega arith) (λ left. omega arith) (λ left more. omega arith)
    (λ left ws others h. omega arith) most_lists (after_table bytes)

-- the codes of a table's check
table-codes : (t : List ℕ) → (table_code t ≡ 0) ⊎ ((2 ≤ table_code t) × (table_code t ≤ 5))
unfolding table_code
table-codes t =
    let P : ℕ → Type 0 = λ n. (n ≡ 0) ⊎ ((2 ≤ n) × (n ≤ 5)) in
    cond-elim P (not (header_ok t)) (λ _. inr (omega arith, omega arith))
    (λ _. cond-elim P (not (length_ok t)) (λ _. inr (omega arith, omega arith))
    (λ _. cond-elim P (not (rights_ok t)) (λ _. inr (omega arith, omega arith))
    (λ _. cond-elim P (not (endpoints_ok t)) (λ _. inr (omega arith, omega arith)) (λ _. inl refl))))

pub every-code : EveryCode
unfolding sheet table_sheet stopped then
every-code bytes =
    record {
      cut_table = λ e. simp e;
      refused_table = λ e refused. simp (e, ne_eqb (table_code (table_of bytes)) 0 refused);
      table_codes = table-codes (table_of bytes);
      list_codes =
          of-lists (λ left x. (x.code ≡ 0) ⊎ ((x.code ≡ 1) ⊎ (x.code ≡ 7))) (λ left. inl refl) (λ left. inr (inl refl))
          (λ left more. inr (inr refl)) (λ left ws others h. h) most_lists (after_table bytes);
    }

-- after code 1 nothing more is wanted
one-final : (bytes : List ℕ) → (lists_of bytes).code ≡ 1 → (lists_of bytes).wanted ≡ 0
unfolding stopped then
one-final bytes =
    of-lists (λ left x. x.code ≡ 1 → x.wanted ≡ 0) (λ left e. absurd (omega arith)) (λ left e. refl) (λ left more e. absurd (omega arith))
    (λ left ws others h. h) most_lists (after_table bytes)

pub refusal-final : EveryRefusalFinal
unfolding no_table table_wanted wanted
refusal-final bytes more =
    record {
      long_table = λ word above. nothing-follows bytes more (simp (le-ltb _ _ word, lt-ltb _ _ above));
      refused_table = λ e refused. nothing-follows bytes more (simp (e, ne_eqb (table_code (table_of bytes)) 0 refused));
      refused_list = λ e one. nothing-follows bytes more (list-final e one);
    }
  where
    list-final : no_table bytes ≡ false → (lists_of bytes).code ≡ 1 → wanted bytes ≡ 0
    list-final e one =
        simp e
        (cond-elim (λ (n : ℕ). n ≡ 0) (eqb (table_code (table_of bytes)) 0) (λ _. one-final bytes one) (λ _. refl))
