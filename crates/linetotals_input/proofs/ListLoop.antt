-- List after list, as in the program's loop: the bytes read so far, the lists that they gave, and what remains. Assumes nothing.
use Prim.Native.Nat.{ℕ, suc, ◌+◌, ◌-◌, ◌*◌, ◌≤◌, ◌<◌}
use mathlib.Core.Path.{◌≡◌, refl, sym, ap, subst, ◌∙◌}
use mathlib.Core.List.{List, [], ◌∷◌, ◌++◌, append-nil, append_assoc}
use borrow.Author.Tests.{eq-eqb, ne_eqb, lt-ltb, le-ltb}
use native.Mathlib.Decide.{dec_lt}
use native.Mathlib.Omega.{arith}
use lib.ListN.{length, take, drop, length-append, length-drop, drop_of_length-le}
use Rattle.machine.specs.Entry.{longest_list}
use Rattle.input_words.specs.Bytes.{word_at, words_of}
use Rattle.input_words.proofs.Needed.{needed-more}
use Rattle.input_words.specs.TableInput.{NeededBy}
use Rattle.linetotals_input.specs.Input.{most_lists, Lists, stopped, then, head_wanted, lists_from}
use Rattle.std.specs.Prelude.{Option, None, Some, Result, Ok, Err}
use Rattle.linetotals_input.specs.Next.{list_refusal_code, next_of}
use Rattle.linetotals_input.specs.declared.ListRefusal.{ListRefusal}
use Rattle.linetotals_input.proofs.ListLaws.{Front, front, from_list, head_few, from-none, list-cut, list-whole, list-stays, whole-stays, still-wanted}
use Rattle.linetotals_input.proofs.ListLaws.{Front.none, Front.many, Front.cut_word, Front.long, Front.list}

-- ---- the bytes before a list

-- the lists end here, with a code
record EndsBy (left : ℕ) (bytes : List ℕ) (code : ℕ) : Type 0 where
  no_list : (lists_from left bytes).lists ≡ []
  by_code : (lists_from left bytes).code ≡ code
  missing : (lists_from left bytes).wanted ≡ head_wanted left - length bytes

-- a list of n words follows
record Follows (left : ℕ) (bytes : List ℕ) (n : ℕ) : Type 0 where
  some : 0 < left
  word : 4 ≤ length bytes
  is : word_at bytes 0 ≡ n
  short : n ≤ longest_list

abbrev Said : ℕ → List ℕ → Result (Option ℕ) ListRefusal → Type 0
Said left bytes (Ok None) = EndsBy left bytes 0
Said left bytes (Ok (Some n)) = Follows left bytes n
Said left bytes (Err r) = EndsBy left bytes (list_refusal_code r)

ends_by : {left : ℕ} {bytes : List ℕ} (code wanted : ℕ) → lists_from left bytes ≡ stopped code wanted → wanted ≡ head_wanted left - length bytes → EndsBy left bytes code
unfolding stopped
ends_by code wanted is missing =
    record { no_list = ap (λ (x : Lists). x.lists) is; by_code = ap (λ (x : Lists). x.code) is; missing = ap (λ (x : Lists). x.wanted) is ∙ missing }

said : (left : ℕ) (bytes : List ℕ) → Said left bytes (next_of left bytes)
unfolding next_of head_wanted
said left bytes = go left (front left bytes)
  where
    go : (left : ℕ) → Front bytes left → Said left bytes (next_of left bytes)
    go left (none e is) = rw (eq-eqb (length bytes) 0 e) (ends_by _ _ is (omega arith))
    go left (many some is) = rw (ne_eqb (length bytes) 0 (omega arith)) (ends_by _ _ is (omega arith))
    go left (cut_word {left = l} some short is) =
        rw (ne_eqb (length bytes) 0 (omega arith), ne_eqb (suc l) 0 (omega arith), lt-ltb (length bytes) 4 short) (ends_by _ _ is (omega arith))
    go left (long {left = l} word above is) =
        rw
        (ne_eqb (length bytes) 0 (omega arith), ne_eqb (suc l) 0 (omega arith), le-ltb (length bytes) 4 word, lt-ltb longest_list (word_at bytes 0) above)
        (ends_by _ _ is (omega arith))
    go left (list {left = l} word short is) =
        rw
        (ne_eqb (length bytes) 0 (omega arith), ne_eqb (suc l) 0 (omega arith), le-ltb (length bytes) 4 word, le-ltb longest_list (word_at bytes 0) short)
        (record { some = omega arith; word = word; is = refl; short = short })

-- ---- the lists so far

-- lists before others
unfoldable pub prepend : List (List ℕ) → Lists → Lists
prepend lists others = record { lists = lists ++ others.lists; code = others.code; wanted = others.wanted }

prepend-then : (lists : List (List ℕ)) (ws : List ℕ) (others : Lists) → prepend lists (then ws others) ≡ prepend (lists ++ (ws ∷ [])) others
unfolding prepend then
prepend-then lists ws others = ap (λ (x : List (List ℕ)). record { lists = x; code = others.code; wanted = others.wanted }) (sym (append_assoc lists (ws ∷ []) others.lists))

-- how many bytes are wanted after those that were read from the first list on
abbrev pub lists_wanted : List ℕ → ℕ
lists_wanted bytes = (lists_from most_lists bytes).wanted

-- The bytes read gave these lists, and end with the bytes `head`, which are before the next list, where `left` more lists may come.
-- Whatever follows continues from there.
pub record AtHead (read : List ℕ) (lists : List (List ℕ)) (left : ℕ) (head : List ℕ) : Type 0 where
  pub goes : (more : List ℕ) → lists_from most_lists (read ++ more) ≡ prepend lists (lists_from left (head ++ more))
  pub count : length lists + left ≡ most_lists
  pub few : length head ≤ head_wanted left
  pub needed : NeededBy lists_wanted read

-- The bytes read gave these lists and the length of one more, after which `left` more may come. Whatever follows continues from
-- there.
pub record Going (read : List ℕ) (lists : List (List ℕ)) (left n : ℕ) : Type 0 where
  pub goes : (more : List ℕ) → lists_from most_lists (read ++ more) ≡ prepend lists (from_list left n more)
  pub count : length lists + (left + 1) ≡ most_lists
  pub short : n ≤ longest_list
  pub needed : NeededBy lists_wanted read

-- The bytes read gave these lists, which end with a code, and so many more bytes are wanted after them.
pub record Over (read : List ℕ) (lists : List (List ℕ)) (code more : ℕ) : Type 0 where
  pub all_lists : (lists_from most_lists read).lists ≡ lists
  pub by_code : (lists_from most_lists read).code ≡ code
  pub missing : lists_wanted read ≡ more
  pub needed : NeededBy lists_wanted read

-- which of the two it is, by the bytes before a list; `more` is how many of them are still wanted
abbrev pub GoesOn : List ℕ → List (List ℕ) → ℕ → ℕ → Result (Option ℕ) ListRefusal → Type 0
GoesOn read lists left more (Ok None) = Over read lists 0 more
GoesOn read lists left more (Ok (Some n)) = Going read lists (left - 1) n
GoesOn read lists left more (Err r) = Over read lists (list_refusal_code r) more

-- by the bytes before a list, the lists are over, or one more follows
module _ {read : List ℕ} {lists : List (List ℕ)} {left : ℕ} {head : List ℕ} (x : AtHead read lists left head) where
  over : (code : ℕ) → EndsBy left head code → Over read lists code (head_wanted left - length head)
  unfolding prepend
  over code ends =
      let all : lists_from most_lists read ≡ prepend lists (lists_from left head) =
      ap (lists_from most_lists) (sym (append-nil read)) ∙ x.goes [] ∙ ap (λ (y : List ℕ). prepend lists (lists_from left y)) (append-nil head) in
      record {
        all_lists = ap (λ (y : Lists). y.lists) all ∙ ap (λ (y : List (List ℕ)). lists ++ y) ends.no_list ∙ append-nil lists;
        by_code = ap (λ (y : Lists). y.code) all ∙ ends.by_code;
        missing = ap (λ (y : Lists). y.wanted) all ∙ ends.missing;
        needed = x.needed;
      }

  going : (n : ℕ) → Follows left head n → Going read lists (left - 1) n
  going n follows =
      let one : left ≡ suc (left - 1) = omega (arith, follows.some) in
      let none : drop 4 head ≡ [] = drop_of_length-le head {i = 4} (omega (arith, x.few, head_few left)) in
      record {
        goes =
            λ more.
            x.goes more
            ∙ ap (λ (k : ℕ). prepend lists (lists_from k (head ++ more))) one
            ∙ ap (prepend lists)
            (list-stays (left - 1) head more follows.word (omega (arith, follows.is, follows.short))
            ∙ ap (λ (y : List ℕ). from_list (left - 1) (word_at head 0) (y ++ more)) none
            ∙ ap (λ (k : ℕ). from_list (left - 1) k more) follows.is);
        count = omega (arith, follows.some, x.count);
        short = follows.short;
        needed = x.needed;
      }

  pub goes_on : (next : Result (Option ℕ) ListRefusal) → next ≡ next_of left head → GoesOn read lists left (head_wanted left - length head) next
  goes_on next is = go next (subst (Said left head) (sym is) (said left head))
    where
      go : (next : Result (Option ℕ) ListRefusal) → Said left head next → GoesOn read lists left (head_wanted left - length head) next
      go (Ok None) y = over 0 y
      go (Ok (Some n)) y = going n y
      go (Err r) y = over (list_refusal_code r) y

-- the bytes before the first list
pub at-start : (head : List ℕ) → length head ≤ head_wanted most_lists → AtHead head [] most_lists head
unfolding prepend stopped
at-start head few =
    record {
      goes = λ more. refl;
      count = refl;
      few = few;
      needed = needed-more lists_wanted (still-wanted most_lists) [] head (λ k l. absurd (omega arith)) (omega (arith, few, ap (λ (y : Lists). y.wanted) (from-none most_lists)));
    }

-- one more list
module _ {read : List ℕ} {lists : List (List ℕ)} {left n : ℕ} (x : Going read lists left n) (chunk : List ℕ) (asked : length chunk ≤ 4 * n + head_wanted left) where
  -- what is wanted where a list's length is known: its words, and the bytes before the next
  pub wanted-now : lists_wanted read ≡ 4 * n + head_wanted left
  unfolding prepend stopped then
  wanted-now =
      ap lists_wanted (sym (append-nil read))
      ∙ ap (λ (y : Lists). y.wanted) (x.goes [])
      ∙ go (dec_lt 0 n)
    where
      go : Dec (0 < n) → (from_list left n []).wanted ≡ 4 * n + head_wanted left
      go (yes h) = ap (λ (y : Lists). y.wanted) (list-cut left n [] (omega arith)) ∙ omega arith
      go (no h) =
          let none : n ≡ 0 = omega arith in
          rw none (ap (λ (y : Lists). y.wanted) (list-whole left 0 [] (omega arith) ∙ ap (then []) (from-none left)) ∙ omega arith)

  needed-now : NeededBy lists_wanted (read ++ chunk)
  needed-now = needed-more lists_wanted (still-wanted most_lists) read chunk x.needed (omega (arith, asked, wanted-now))

  pub list-taken : 4 * n ≤ length chunk → AtHead (read ++ chunk) (lists ++ (take n (words_of chunk) ∷ [])) left (drop (4 * n) chunk)
  list-taken all =
      record {
        goes =
            λ more.
            ap (lists_from most_lists) (append_assoc read chunk more)
            ∙ x.goes (chunk ++ more)
            ∙ ap (prepend lists) (whole-stays left n chunk more all)
            ∙ prepend-then lists (take n (words_of chunk)) (lists_from left (drop (4 * n) chunk ++ more));
        count = omega (arith, x.count, length-append lists (take n (words_of chunk) ∷ []));
        few = omega (arith, asked, length-drop (4 * n) chunk);
        needed = needed-now;
      }

  pub list-short : length chunk < 4 * n → Over (read ++ chunk) lists 7 (4 * n - length chunk + head_wanted left)
  unfolding prepend stopped
  list-short h =
      let all : lists_from most_lists (read ++ chunk) ≡ prepend lists (stopped 7 (4 * n - length chunk + head_wanted left)) =
      x.goes chunk ∙ ap (prepend lists) (list-cut left n chunk h) in
      record { all_lists = ap (λ (y : Lists). y.lists) all ∙ append-nil lists; by_code = ap (λ (y : Lists). y.code) all; missing = ap (λ (y : Lists). y.wanted) all; needed = needed-now }
