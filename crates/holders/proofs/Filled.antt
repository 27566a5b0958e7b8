-- The holders as they are computed from a table, one after the other and row by row, and for callers that it is done for each
-- accepted table. Assumes nothing.
use mathlib.Core.Path.{◌≡◌, sym, ap, ap₂, ◌∙◌}
use mathlib.Core.Bool.{true, cond, ◌&&◌}
use mathlib.Core.List.{List}
use Prim.Native.Nat.{ℕ, suc, ◌+◌, ◌*◌, ◌^◌, ◌<◌, ◌≤◌}
use native.Mathlib.Numerals.{add-one}
use native.Mathlib.Omega.{arith}
use borrow.Author.Tests.{ltb-true, leb-true, eqb-true}
use lib.Bits.{bit_or}
use lib.Dec.{eqb, leb, ltb}
use lib.ListN.{length, get_or, set, replicate, length-set, length-replicate, get_or-replicate}
use lib.Seq.{get_or-set_same, get_or-set_other}
use borrow.Author.Count.{below_more}
use Rattle.std.proofs.lemmas.Grind.{same_number_lists}
use Rattle.machine.specs.Below.{sum_below, words_below, bits_below}
use Rattle.machine.specs.Word.{payload}
use Rattle.machine.specs.Right.{has_any}
use Rattle.machine.specs.Table.{domains, rights_at}
use Rattle.machine.specs.Influence.{reaches}
use Rattle.machine.specs.Holders.{holders_of}
use Rattle.machine.proofs.Bools.{and_left, and_right}
use Rattle.machine.proofs.Below.{words-at, words_same, words-length}
use Rattle.machine.proofs.Table.{rights-below}
use Rattle.table_layout.proofs.Places.{rights-read}
use Rattle.holders_theory.specs.Noted.{room_for}
use Rattle.holders.specs.Rows.{HoldersFit, with_row}
use Rattle.holders_theory.proofs.OneBit.{bits-next}
pub use Rattle.holders_theory.proofs.Filled.{filled-accepted}

-- ---- words written from the front: g of them are there, and the rest is as it was in ws
pub record Written (f : ℕ → ℕ) (ws ps : List ℕ) (g : ℕ) : Type 0 where
  pub size : length ps ≡ length ws
  pub front : (k : ℕ) → k < g → get_or ps k 0 ≡ f k
  pub rest : (k : ℕ) → g ≤ k → get_or ps k 0 ≡ get_or ws k 0

module _ (f : ℕ → ℕ) (ws ps : List ℕ) (g : ℕ) (x : Written f ws ps g) where
  pub written_next : (w : ℕ) → g < length ws → w ≡ f g → Written f ws (set ps g w) (g + 1)
  written_next w l e =
      record {
        size = length-set ps g w ∙ x.size;
        front =
            below_more _ g (λ k b. get_or-set_other ps g k w 0 (λ z. omega arith) ∙ x.front k b)
            (get_or-set_same ps g w 0 (omega (arith, x.size)) ∙ e);
        rest = λ k b. get_or-set_other ps g k w 0 (λ z. omega arith) ∙ x.rest k (omega arith);
      }

-- a list is known by its words
pub words-of : (f : ℕ → ℕ) (n : ℕ) (ps : List ℕ) → length ps ≡ n → ((k : ℕ) → k < n → get_or ps k 0 ≡ f k) → ps ≡ words_below n f
words-of f n ps size same =
    same_number_lists ps (words_below n f) (size ∙ sym (words-length n f))
    (λ k l. let below : k < n = omega (arith, size) in same k below ∙ sym (words-at n f k 0 below))

-- ---- one row: its words are in the table, and each adds the holder's bit to a word
pub row-there : (t : List ℕ) (n : ℕ) (ps : List ℕ) (h g at : ℕ) → HoldersFit t n ps → at ≡ rights_at n h g → h < n → g < n → at < length t
row-there t n ps h g at room e p q = omega (arith, room.table, rights-below n h g p q)

pub row_word :
    (t : List ℕ) (n h : ℕ) (ws : List ℕ) (g word at holder one : ℕ)
    → word ≡ get_or ws g 0
    → at ≡ rights_at n h g
    → holder ≡ 2 ^ h
    → one ≡ cond (has_any (payload (get_or t at 0))) holder 0
    → bit_or word one ≡ with_row t n h ws g
unfolding with_row
row_word t n h ws g word at holder one p q r s = rw (p, s, r, q)

-- ---- row by row: what the first h of n domains hold is in the words
pub record Gathered (t : List ℕ) (n : ℕ) (ps : List ℕ) (h : ℕ) : Type 0 where
  pub within : h ≤ n
  pub found : ps ≡ words_below n (λ g. bits_below h (λ u. reaches t u g))

pub gathered-start : (t : List ℕ) (n : ℕ) → Gathered t n (replicate n 0) 0
unfolding bits_below sum_below
gathered-start t n =
    record {
      within = omega arith;
      found = words-of _ n (replicate n 0) (length-replicate n 0) (λ k l. get_or-replicate n k 0 0 l);
    }

module _ (t : List ℕ) (n : ℕ) (ps : List ℕ) (h : ℕ) (x : Gathered t n ps h) where
  pub gathered-size : length ps ≡ n
  gathered-size = ap length x.found ∙ words-length n (λ g. bits_below h (λ u. reaches t u g))

  module _ (e : n ≡ domains t) where
    with-row : (g : ℕ) → g < n → with_row t n h ps g ≡ bits_below (suc h) (λ u. reaches t u g)
    unfolding with_row reaches
    with-row g l =
        ap₂ (λ (w s : ℕ). bit_or w (cond (has_any s) (2 ^ h) 0))
        (ap (λ us. get_or us g 0) x.found ∙ words-at n (λ g. bits_below h (λ u. reaches t u g)) g 0 l)
        (rights-read t n e h g)
        ∙ bits-next h (λ u. reaches t u g)

    pub gathered_next : (qs : List ℕ) → h < n → qs ≡ words_below n (with_row t n h ps) → Gathered t n qs (h + 1)
    gathered_next qs l is =
        record {
          within = omega arith;
          found = rw add-one (is ∙ words_same n (with_row t n h ps) (λ g. bits_below (suc h) (λ u. reaches t u g)) with-row);
        }

    pub gathered-end : n ≤ h → ps ≡ holders_of t
    unfolding holders_of
    gathered-end l =
        let all : h ≡ domains t = omega (arith, x.within) in
        x.found ∙ ap₂ (λ (k j : ℕ). words_below k (λ g. bits_below j (λ u. reaches t u g))) e all

-- ---- whether the holders are computed at all

pub has_room : (t : List ℕ) (n : ℕ) (p : List ℕ) → room_for n (length t) (length p) ≡ true → HoldersFit t n p
unfolding room_for
has_room t n p h =
    let both = and_left (leb n 16 && eqb (length p) n) (ltb (n * n) (length t)) h in
    record {
      few = leb-true _ _ (and_left (leb n 16) (eqb (length p) n) both);
      words = eqb-true _ _ (and_right (leb n 16) (eqb (length p) n) both);
      table = ltb-true _ _ (and_right (leb n 16 && eqb (length p) n) (ltb (n * n) (length t)) h);
    }
