-- The passes over a table and its mended copy: the invariant of each, iteration by iteration. Assumes nothing.
use Prim.Native.Nat.{ℕ, zero, suc, ◌+◌, ◌*◌, ◌-◌, ◌<◌, ◌≤◌}
use mathlib.Core.Path.{◌≡◌, refl, sym, ap, ap₂, subst, ◌∙◌}
use mathlib.Core.Bool.{Bool, true, false, cond}
use mathlib.Core.List.{List, [], ◌∷◌, ◌++◌, append-nil}
use native.Mathlib.Nat.{le_antisymm, zero-add, suc-add}
use native.Mathlib.Numerals.{add-one, add-one-le}
use native.Mathlib.Omega.{arith}
use borrow.Author.Tests.{eq-eqb, ne_eqb}
use Rattle.std.specs.Int.{from_bool}
use lib.ListN.{length, get_or, take, drop, set, length-append, length-set}
use lib.Seq.{take-length, drop-length, take_at, drop_at, drop-drop, drop-cons, get_or_at, set-get_or, set_at, sets-eq, take-suc, append_snoc, length-take-le}
use Rattle.machine.specs.Below.{numbers_below}
use Rattle.repair_theory.specs.Changes.{differing, change_pairs, changes}
use Rattle.repair_theory.proofs.Changes.{differs_at, lists-numbers, pairs-length, pairs-append}

-- ---- one word more is passed

module _ (old new : List ℕ) (i : ℕ) where
  one_more : (get_or old i 0 ≡ get_or new i 0 → ⊥) → numbers_below (i + 1) (differs_at old new) ≡ numbers_below i (differs_at old new) ++ (i ∷ [])
  unfolding numbers_below
  one_more differs = rw (add-one i, ne_eqb _ _ differs)

  no_more : get_or old i 0 ≡ get_or new i 0 → numbers_below (i + 1) (differs_at old new) ≡ numbers_below i (differs_at old new)
  unfolding numbers_below
  no_more same = rw (add-one i, eq-eqb _ _ same) (append-nil _)

-- ---- the first pass: one place more is counted
module _ (old new : List ℕ) where
  pub counted_next : (i : ℕ) {count step : ℕ} → count ≡ length (numbers_below i (differs_at old new)) → step ≡ from_bool (differs_at old new i)
      → (step ≤ 1) × (count + step ≡ length (numbers_below (i + 1) (differs_at old new)))
  unfolding numbers_below
  counted_next i {count} {step} before is = rw (add-one i, is) (go (differs_at old new i))
    where
      go : (b : Bool) → (from_bool b ≤ 1) × (count + from_bool b ≡ length (numbers_below i (differs_at old new) ++ cond b (i ∷ []) []))
      go true = (omega arith, ap (λ k. k + 1) before ∙ sym (length-append (numbers_below i (differs_at old new)) (i ∷ [])))
      go false = (omega arith, omega arith ∙ before ∙ ap length (sym (append-nil (numbers_below i (differs_at old new)))))

-- ---- words copied from the front: the first i words of d are those of s
pub record Copied (d s copy : List ℕ) (i : ℕ) : Type 0 where
  pub within : i ≤ length s
  pub size : length copy ≡ length d
  pub words : copy ≡ take i s ++ drop i d

pub copied-start : (d s : List ℕ) → Copied d s d 0
copied-start d s = record { within = omega arith; size = refl; words = refl }

module _ {d s copy : List ℕ} {i : ℕ} (c : Copied d s copy i) (same : length s ≡ length d) where
  module _ (l : i < length s) where
    taken : length (take i s) ≡ i
    taken = length-take-le i s c.within

    rest : drop i d ≡ get_or d i 0 ∷ drop (i + 1) d
    rest = rw (add-one i) (drop-cons d i 0 (omega arith))

    pub copied-read : get_or copy i 0 ≡ get_or d i 0
    copied-read =
        ap (λ (x : List ℕ). get_or x i 0) (c.words ∙ ap (λ (x : List ℕ). take i s ++ x) rest)
        ∙ get_or_at (take i s) (get_or d i 0) (drop (i + 1) d) 0 i taken

    pub copied_next : Copied d s (set copy i (get_or s i 0)) (i + 1)
    copied_next =
        record {
          within = add-one-le l;
          size = length-set copy i (get_or s i 0) ∙ c.size;
          words =
              ap (λ (x : List ℕ). set x i (get_or s i 0)) (c.words ∙ ap (λ (x : List ℕ). take i s ++ x) rest)
              ∙ set_at (take i s) (get_or d i 0) (drop (i + 1) d) (get_or s i 0) i taken
              ∙ sym (append_snoc (take i s) (get_or s i 0) (drop (i + 1) d))
              ∙ ap (λ (x : List ℕ). x ++ drop (i + 1) d) (sym (take-suc s i 0 l) ∙ ap (λ (k : ℕ). take k s) (sym (add-one i)));
        }

    -- a word that is the same need not be written
    pub copied-same : get_or d i 0 ≡ get_or s i 0 → Copied d s copy (i + 1)
    copied-same e =
        subst (λ (x : List ℕ). Copied d s x (i + 1))
        (ap (set copy i) (sym e ∙ sym copied-read) ∙ set-get_or copy i 0) copied_next

  pub copied-end : length s ≤ i → copy ≡ s
  copied-end l =
      let all : i ≡ length s = le_antisymm c.within l in
      c.words
      ∙ ap₂ (λ (k j : ℕ). take k s ++ drop j d) all (all ∙ same)
      ∙ ap₂ (λ (x y : List ℕ). x ++ y) (take-length s) (drop-length d)
      ∙ append-nil s

-- ---- the second pass: the first i words are the new ones, and the pairs of those that differ are at the front of the list
pub record Replacing (t new list₀ table list : List ℕ) (at i : ℕ) : Type 0 where
  pub copied : Copied t new table i
  pub size : length list ≡ length list₀
  pub place : at ≡ 2 * length (numbers_below i (differs_at t new))
  pub reported : list ≡ change_pairs t (numbers_below i (differs_at t new)) ++ drop at list₀

pub replacing-start : (t new list : List ℕ) → Replacing t new list t list 0 0
unfolding numbers_below change_pairs
replacing-start t new list = record { copied = copied-start t new; size = refl; place = refl; reported = refl }

-- there are no more pairs so far than words
pub replacing-few : {t new list₀ table list : List ℕ} {at i : ℕ} → Replacing t new list₀ table list at i → at ≤ 2 * i
replacing-few {t} {new} {i = i} r = omega (arith, r.place, (lists-numbers i (differs_at t new)).few)

-- further on no fewer words differ
no-fewer : (p : ℕ → Bool) (k j : ℕ) → length (numbers_below k p) ≤ length (numbers_below (j + k) p)
unfolding numbers_below
no-fewer p k zero = rw (zero-add k) (omega arith)
no-fewer p k (suc j) =
    rw (suc-add j k, length-append) (omega (arith, no-fewer p k j))

module _ {t new list₀ table list : List ℕ} {at i : ℕ} (r : Replacing t new list₀ table list at i) (same : length new ≡ length t) (l : i < length t) where
  within : i < length new
  within = omega arith

  module _ (differs : get_or table i 0 ≡ get_or new i 0 → ⊥) where
    one : numbers_below (i + 1) (differs_at t new) ≡ numbers_below i (differs_at t new) ++ (i ∷ [])
    one = one_more t new i (λ e. differs (copied-read r.copied same within ∙ e))

    next_place : at + 2 ≡ 2 * length (numbers_below (i + 1) (differs_at t new))
    next_place = rw (one, length-append) (omega (arith, r.place))

    -- there is room for one pair more
    pub pair_fits : length (changes t new) ≤ length list₀ → at + 2 ≤ length list
    unfolding changes differing
    pair_fits room =
        let rest : ℕ = length t - (i + 1) in
        let all : rest + (i + 1) ≡ length t = omega arith in
        omega (
          arith,
          r.size,
          next_place,
          no-fewer (differs_at t new) (i + 1) rest,
          ap (λ (k : ℕ). length (numbers_below k (differs_at t new))) all,
          pairs-length t (numbers_below (length t) (differs_at t new)),
        )

    pub replacing-differs : length (changes t new) ≤ length list₀
        → (table' list' : List ℕ) (at' : ℕ)
        → table' ≡ set table i (get_or new i 0)
        → list' ≡ set (set list at i) (at + 1) (get_or table i 0)
        → at' ≡ at + 2
        → Replacing t new list₀ table' list' at' (i + 1)
    unfolding change_pairs
    replacing-differs room table' list' at' wrote tells next =
        record {
          copied = rw wrote (copied_next r.copied same within);
          size = ap length tells ∙ simp length-set r.size;
          place = next ∙ next_place;
          reported =
              tells
              ∙ ap (λ (k : ℕ). set (set list at i) k (get_or table i 0)) (add-one at)
              ∙ sets-eq (i ∷ get_or table i 0 ∷ []) list at (pair_fits room)
              ∙ ap₂ (λ (x y : List ℕ). x ++ (i ∷ get_or table i 0 ∷ []) ++ y) front behind
              ∙ ap₂ (λ (w : ℕ) (x : List ℕ). done ++ (i ∷ w ∷ []) ++ x) (copied-read r.copied same within) (ap (λ (k : ℕ). drop k list₀) (sym next))
              ∙ ap (λ (x : List ℕ). x ++ drop at' list₀) (sym (ap (change_pairs t) one ∙ pairs-append t (numbers_below i (differs_at t new)) (i ∷ [])));
        }
      where
        done : List ℕ
        done = change_pairs t (numbers_below i (differs_at t new))

        long : length done ≡ at
        long = pairs-length t (numbers_below i (differs_at t new)) ∙ sym r.place

        front : take at list ≡ done
        front = ap (take at) r.reported ∙ take_at done (drop at list₀) at long

        behind : drop (at + 2) list ≡ drop (at + 2) list₀
        behind =
            sym (drop-drop 2 at list)
            ∙ ap (drop 2) (ap (drop at) r.reported ∙ drop_at done (drop at list₀) at long)
            ∙ drop-drop 2 at list₀

  pub replacing-same : get_or table i 0 ≡ get_or new i 0
      → (table' list' : List ℕ) (at' : ℕ)
      → table' ≡ table
      → list' ≡ list
      → at' ≡ at
      → Replacing t new list₀ table' list' at' (i + 1)
  replacing-same e table' list' at' wrote tells next =
      let none = no_more t new i (sym (copied-read r.copied same within) ∙ e) in
      record {
        copied = rw wrote (copied-same r.copied same within (sym (copied-read r.copied same within) ∙ e));
        size = ap length tells ∙ r.size;
        place = rw none (next ∙ r.place);
        reported = rw (none, next) (tells ∙ r.reported);
      }

pub replacing-end : {t new list₀ table list : List ℕ} {at i : ℕ} → Replacing t new list₀ table list at i → length new ≡ length t → length t ≤ i
    → (table ≡ new) × (list ≡ changes t new ++ drop (length (changes t new)) list₀)
unfolding changes differing
replacing-end {t} {new} {list₀} {table} {list} {at} {i} r same l =
    let all : i ≡ length t = le_antisymm (omega (arith, r.copied.within)) l in
    let reported : change_pairs t (numbers_below i (differs_at t new)) ≡ change_pairs t (numbers_below (length t) (differs_at t new)) = ap (λ (k : ℕ). change_pairs t (numbers_below k (differs_at t new))) all in
    (copied-end r.copied same (omega arith), r.reported ∙ ap₂ (λ (x : List ℕ) (k : ℕ). x ++ drop k list₀) reported (r.place ∙ sym (pairs-length t (numbers_below i (differs_at t new))) ∙ ap length reported))
