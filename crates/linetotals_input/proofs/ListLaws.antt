-- The lists that bytes give: what is at the front of the bytes, bytes that follow, and how much is wanted. Assumes nothing.
use Prim.Native.Nat.{ℕ, zero, suc, ◌+◌, ◌-◌, ◌*◌, ◌≤◌, ◌<◌}
use mathlib.Core.Path.{◌≡◌, refl, sym, ap, ◌∙◌}
use mathlib.Core.List.{List, [], ◌∷◌, ◌++◌}
use borrow.Author.Tests.{lt-ltb, le-ltb}
use native.Mathlib.Decide.{dec_lt}
use native.Mathlib.Omega.{arith}
use lib.ListN.{length, take, drop, length-append, length-drop}
use lib.Seq.{drop-append-le}
use Rattle.machine.specs.Entry.{longest_list}
use Rattle.input_words.specs.Bytes.{word_at, words_of}
use Rattle.input_words.proofs.WordLaws.{word_at-append, take-words_of-append}
use Rattle.linetotals_input.specs.Input.{Lists, stopped, then, head_wanted, list_first, lists_from}

-- ---- what is at the front

pub from-none : (left : ℕ) → lists_from left [] ≡ stopped 0 (head_wanted left)
unfolding lists_from head_wanted
from-none zero = refl
from-none (suc left) = refl

pub from-many : (bytes : List ℕ) → 0 < length bytes → lists_from 0 bytes ≡ stopped 1 0
unfolding lists_from
from-many [] h = absurd (omega arith)
from-many (b ∷ bytes) h = refl

pub from_cut : (left : ℕ) (bytes : List ℕ) → 0 < length bytes → length bytes < 4 → lists_from (suc left) bytes ≡ stopped 7 (4 - length bytes)
unfolding lists_from
from_cut left [] some h = absurd (omega arith)
from_cut left (b ∷ bytes) some h = rw (lt-ltb (length (b ∷ bytes)) 4 h)

pub from-long : (left : ℕ) (bytes : List ℕ) → 4 ≤ length bytes → longest_list < word_at bytes 0 → lists_from (suc left) bytes ≡ stopped 1 0
unfolding lists_from
from-long left [] h long = absurd (omega arith)
from-long left (b ∷ bytes) h long = rw (le-ltb (length (b ∷ bytes)) 4 h, lt-ltb longest_list (word_at (b ∷ bytes) 0) long)

-- the lists from one on whose length is known
abbrev pub from_list : ℕ → ℕ → List ℕ → Lists
from_list left n bytes = list_first left n bytes (lists_from left (drop (4 * n) bytes))

pub from_list_lem : (left : ℕ) (bytes : List ℕ) → 4 ≤ length bytes → word_at bytes 0 ≤ longest_list → lists_from (suc left) bytes ≡ from_list left (word_at bytes 0) (drop 4 bytes)
unfolding lists_from
from_list_lem left [] h short = absurd (omega arith)
from_list_lem left (b ∷ bytes) h short = rw (le-ltb (length (b ∷ bytes)) 4 h, le-ltb longest_list (word_at (b ∷ bytes) 0) short)

-- a list that is cut short, and one that isn't
pub list-cut : (left n : ℕ) (bytes : List ℕ) → length bytes < 4 * n → from_list left n bytes ≡ stopped 7 (4 * n - length bytes + head_wanted left)
unfolding list_first
list-cut left n bytes h = rw (lt-ltb (length bytes) (4 * n) h)

pub list-whole : (left n : ℕ) (bytes : List ℕ) → 4 * n ≤ length bytes → from_list left n bytes ≡ then (take n (words_of bytes)) (lists_from left (drop (4 * n) bytes))
unfolding list_first
list-whole left n bytes h = rw (le-ltb (length bytes) (4 * n) h)

-- The six cases.
pub data Front (bytes : List ℕ) : ℕ → Type 0 where
  none : {left : ℕ} → length bytes ≡ 0 → lists_from left bytes ≡ stopped 0 (head_wanted left) → Front bytes left
  many : 0 < length bytes → lists_from 0 bytes ≡ stopped 1 0 → Front bytes 0
  cut_word : {left : ℕ} → 0 < length bytes → length bytes < 4 → lists_from (suc left) bytes ≡ stopped 7 (4 - length bytes) → Front bytes (suc left)
  long : {left : ℕ} → 4 ≤ length bytes → longest_list < word_at bytes 0 → lists_from (suc left) bytes ≡ stopped 1 0 → Front bytes (suc left)
  list : {left : ℕ} → 4 ≤ length bytes → word_at bytes 0 ≤ longest_list → lists_from (suc left) bytes ≡ from_list left (word_at bytes 0) (drop 4 bytes) → Front bytes (suc left)

pub front : (left : ℕ) (bytes : List ℕ) → Front bytes left
front left [] = none refl (from-none left)
front zero (b ∷ bytes) = many (omega arith) (from-many (b ∷ bytes) (omega arith))
front (suc left) (b ∷ bytes) = go (dec_lt (length (b ∷ bytes)) 4) (dec_lt longest_list (word_at (b ∷ bytes) 0))
  where
    go : Dec (length (b ∷ bytes) < 4) → Dec (longest_list < word_at (b ∷ bytes) 0) → Front (b ∷ bytes) (suc left)
    go (yes h) d = cut_word (omega arith) h (from_cut left (b ∷ bytes) (omega arith) h)
    go (no h) (yes l) = long (omega arith) l (from-long left (b ∷ bytes) (omega arith) l)
    go (no h) (no l) = list (omega arith) (omega arith) (from_list_lem left (b ∷ bytes) (omega arith) (omega arith))

-- ---- bytes that follow

-- one byte at least, and no more than four
pub head_few : (left : ℕ) → (0 < head_wanted left) × (head_wanted left ≤ 4)
unfolding head_wanted
head_few zero = omega arith
head_few (suc left) = omega arith

head-some : (left : ℕ) → 0 < head_wanted left
head-some left = (head_few left).0

-- while the bytes before a list aren't all there, more is wanted
head-still : (left : ℕ) (bytes : List ℕ) → length bytes < head_wanted left → 0 < (lists_from left bytes).wanted
unfolding head_wanted stopped
head-still left bytes h = go left h (front left bytes)
  where
    go : (left : ℕ) → length bytes < head_wanted left → Front bytes left → 0 < (lists_from left bytes).wanted
    go left h (none e is) = rw is (head-some left)
    go left h (many some is) = absurd (omega arith)
    go left h (cut_word some short is) = rw is (omega arith)
    go left h (long word above is) = absurd (omega arith)
    go left h (list word short is) = absurd (omega arith)

-- bytes that follow a length word make no difference to it
module _ (left : ℕ) (bytes more : List ℕ) (word : 4 ≤ length bytes) where
  word-stays : word_at (bytes ++ more) 0 ≡ word_at bytes 0
  word-stays = word_at-append bytes more 0 (omega arith)

  word-behind : 4 ≤ length (bytes ++ more)
  word-behind = omega (arith, length-append bytes more)

  long-stays : longest_list < word_at bytes 0 → lists_from (suc left) (bytes ++ more) ≡ stopped 1 0
  long-stays above = from-long left (bytes ++ more) word-behind (omega (arith, word-stays))

  pub list-stays : word_at bytes 0 ≤ longest_list → lists_from (suc left) (bytes ++ more) ≡ from_list left (word_at bytes 0) (drop 4 bytes ++ more)
  list-stays short =
      from_list_lem left (bytes ++ more) word-behind (omega (arith, word-stays))
      ∙ ap (λ (n : ℕ). from_list left n (drop 4 (bytes ++ more))) word-stays
      ∙ ap (from_list left (word_at bytes 0)) (drop-append-le 4 bytes more word)

-- nor do they make a difference to a list that is whole
pub whole-stays : (left n : ℕ) (bytes more : List ℕ) → 4 * n ≤ length bytes
    → from_list left n (bytes ++ more) ≡ then (take n (words_of bytes)) (lists_from left (drop (4 * n) bytes ++ more))
whole-stays left n bytes more h =
    list-whole left n (bytes ++ more) (omega (arith, length-append bytes more))
    ∙ ap (λ (ws : List ℕ). then ws (lists_from left (drop (4 * n) (bytes ++ more)))) (take-words_of-append n bytes more h)
    ∙ ap (λ (rest : List ℕ). then (take n (words_of bytes)) (lists_from left rest)) (drop-append-le (4 * n) bytes more h)

-- where nothing more is wanted, nothing that follows makes a difference
pub nothing-follows : (left : ℕ) (bytes more : List ℕ) → (lists_from left bytes).wanted ≡ 0 → lists_from left (bytes ++ more) ≡ lists_from left bytes
unfolding stopped then
nothing-follows zero bytes more done = go (front zero bytes)
  where
    go : Front bytes 0 → lists_from 0 (bytes ++ more) ≡ lists_from 0 bytes
    go (none e is) = absurd (omega (arith, done, ap (λ (x : Lists). x.wanted) is, head-some 0))
    go (many some is) = from-many (bytes ++ more) (omega (arith, length-append bytes more)) ∙ sym is
nothing-follows (suc left) bytes more done = go (λ xs z. nothing-follows left xs more z) (front (suc left) bytes)
  where
    -- what the lists after the first say
    Afterwards : Type 0
    Afterwards = (xs : List ℕ) → (lists_from left xs).wanted ≡ 0 → lists_from left (xs ++ more) ≡ lists_from left xs

    list-follows : Afterwards → (n : ℕ) (xs : List ℕ) → (from_list left n xs).wanted ≡ 0 → Dec (length xs < 4 * n) → from_list left n (xs ++ more) ≡ from_list left n xs
    list-follows behind n xs z (yes h) = absurd (omega (arith, z, ap (λ (x : Lists). x.wanted) (list-cut left n xs h), head-some left))
    list-follows behind n xs z (no h) =
        let all : 4 * n ≤ length xs = omega arith in
        whole-stays left n xs more all
        ∙ ap (then (take n (words_of xs))) (behind (drop (4 * n) xs) (sym (ap (λ (x : Lists). x.wanted) (list-whole left n xs all)) ∙ z))
        ∙ sym (list-whole left n xs all)

    go : Afterwards → Front bytes (suc left) → lists_from (suc left) (bytes ++ more) ≡ lists_from (suc left) bytes
    go behind (none e is) = absurd (omega (arith, done, ap (λ (x : Lists). x.wanted) is, head-some (suc left)))
    go behind (cut_word some short is) = absurd (omega (arith, done, ap (λ (x : Lists). x.wanted) is))
    go behind (long word above is) = long-stays left bytes more word above ∙ sym is
    go behind (list word short is) =
        list-stays left bytes more word short
        ∙ list-follows behind (word_at bytes 0) (drop 4 bytes) (sym (ap (λ (x : Lists). x.wanted) is) ∙ done) (dec_lt _ _)
        ∙ sym is

-- while fewer bytes follow than are wanted, more is wanted
pub still-wanted : (left : ℕ) (bytes more : List ℕ) → length more < (lists_from left bytes).wanted → 0 < (lists_from left (bytes ++ more)).wanted
unfolding stopped then head_wanted
still-wanted zero bytes more h = go (front zero bytes)
  where
    go : Front bytes 0 → 0 < (lists_from 0 (bytes ++ more)).wanted
    go (none e is) = head-still 0 (bytes ++ more) (omega (arith, h, ap (λ (x : Lists). x.wanted) is, length-append bytes more))
    go (many some is) = absurd (omega (arith, h, ap (λ (x : Lists). x.wanted) is))
still-wanted (suc left) bytes more h = go (λ xs l. still-wanted left xs more l) (front (suc left) bytes)
  where
    Afterwards : Type 0
    Afterwards = (xs : List ℕ) → length more < (lists_from left xs).wanted → 0 < (lists_from left (xs ++ more)).wanted

    list-still : Afterwards → (n : ℕ) (xs : List ℕ) → length more < (from_list left n xs).wanted → Dec (length xs < 4 * n) → Dec (length (xs ++ more) < 4 * n) → 0 < (from_list left n (xs ++ more)).wanted
    list-still behind n xs l (yes k) (yes j) = rw (list-cut left n (xs ++ more) j) (omega (arith, head-some left))
    list-still behind n xs l (yes k) (no j) =
        let all : 4 * n ≤ length (xs ++ more) = omega arith in
        rw (list-whole left n (xs ++ more) all)
        (head-still left (drop (4 * n) (xs ++ more))
        (omega (arith, l, ap (λ (x : Lists). x.wanted) (list-cut left n xs k), length-drop (4 * n) (xs ++ more), length-append xs more)))
    list-still behind n xs l (no k) d =
        let all : 4 * n ≤ length xs = omega arith in
        rw (whole-stays left n xs more all)
        (behind (drop (4 * n) xs) (omega (arith, l, ap (λ (x : Lists). x.wanted) (list-whole left n xs all))))

    go : Afterwards → Front bytes (suc left) → 0 < (lists_from (suc left) (bytes ++ more)).wanted
    go behind (none e is) = head-still (suc left) (bytes ++ more) (omega (arith, h, ap (λ (x : Lists). x.wanted) is, length-append bytes more))
    go behind (cut_word some short is) = head-still (suc left) (bytes ++ more) (omega (arith, h, ap (λ (x : Lists). x.wanted) is, length-append bytes more))
    go behind (long word above is) = absurd (omega (arith, h, ap (λ (x : Lists). x.wanted) is))
    go behind (list word short is) =
        rw (list-stays left bytes more word short)
        (list-still behind (word_at bytes 0) (drop 4 bytes) (omega (arith, h, ap (λ (x : Lists). x.wanted) is)) (dec_lt _ _) (dec_lt _ _))
