-- Laws of pending words: what a call at their front is and what remains after it, what handing in adds, and whom a turn serves
-- (specs/Turns). Assumes nothing.
use mathlib.Core.Path.{◌≡◌, refl, sym, ap, subst, ◌∙◌}
use mathlib.Core.Bool.{Bool, true, false, cond, not, ◌&&◌, true≢false, false≢true}
use mathlib.Core.Logic.{◌⊎◌, ⊎_elim, ◌⊎◌.inl, ◌⊎◌.inr}
use mathlib.Core.List.{List, [], ◌∷◌, ◌++◌}
use mathlib.Core.Option.{Option, none, some}
use Prim.Native.Nat.{ℕ, zero, suc, ◌<◌, ◌≤◌}
use native.Mathlib.Nat.{not-suc-le-zero}
use native.Mathlib.Omega.{arith}
use borrow.Author.Tests.{eqb-true, eq-eqb, le-leb, leb-true}
use lib.Dec.{eqb, leb}
use lib.ListN.{length, drop}
use Rattle.machine.specs.Word.{kind, caller}
use Rattle.machine.specs.Below.{first_below}
use Rattle.machine.specs.Call.{Call, first, caller_of, wants_second, pairs, split, Call.one, Call.two}
use Rattle.machine.specs.DomainSet.{called_by}
use Rattle.machine.proofs.Bools.{and_left, and_right}
use Rattle.machine.proofs.Below.{below-or-last}
use Rattle.turns_theory.specs.Turns.{Turns, replaced, is_one_of, waits, first_pending_from, or_else, first_waiting, serves_oldest, serves_at, turn_of, width, Turn.idle, Turn.serves}

-- ---- the call at the front of words

-- the oldest call of words whose first is w
unfoldable pub oldest : ℕ → List ℕ → Call
oldest w [] = one w
oldest w (v ∷ ws) = cond (pairs w v) (two w v) (one w)

pub split-oldest : (w : ℕ) (ws : List ℕ) → split (w ∷ ws) ≡ oldest w ws ∷ split (drop (width (oldest w ws)) (w ∷ ws))
unfolding split oldest
split-oldest w [] = refl
split-oldest w (v ∷ ws) = go (pairs w v)
  where
    go : (b : Bool) → cond b (two w v ∷ split ws) (one w ∷ split (v ∷ ws)) ≡ cond b (two w v) (one w) ∷ split (drop (width (cond b (two w v) (one w))) (w ∷ v ∷ ws))
    go true = refl
    go false = refl

-- a call is no longer than the words at whose front it is
pub oldest-width : (w : ℕ) (ws : List ℕ) → width (oldest w ws) ≤ suc (length ws)
unfolding oldest
oldest-width w [] = omega arith
oldest-width w (v ∷ ws) = go (pairs w v)
  where
    go : (b : Bool) → width (cond b (two w v) (one w)) ≤ suc (suc (length ws))
    go true = omega arith
    go false = omega arith

pub cons_same : {A : Type 0} {x y : A} {xs ys : List A} → ◌≡◌ {A = List A} (x ∷ xs) (y ∷ ys) → (x ≡ y) × (xs ≡ ys)
cons_same p = (cc, cc)

pub no-cons : {A : Type 0} {x : A} {xs : List A} → ◌≡◌ {A = List A} [] (x ∷ xs) → ⊥
no-cons {A} p = true≢false (ap is_nil p)
  where
    is_nil : List A → Bool
    is_nil [] = true
    is_nil (x ∷ xs) = false

-- ---- words after words

-- the words begin with no word of kind 15
unfoldable pub opens : List ℕ → Bool
opens [] = true
opens (w ∷ ws) = not (eqb (kind w) 15)

-- a word of kind 15 alone would belong to the words before it
pub split-append : (ws vs : List ℕ) → opens vs ≡ true → split (ws ++ vs) ≡ split ws ++ split vs
unfolding split opens pairs
split-append [] vs h = refl
split-append (w ∷ []) [] h = refl
split-append (w ∷ []) (v ∷ vs) h = rw (apart (wants_second (kind w)) (eqb (kind v) 15) h)
  where
    apart : (a b : Bool) → not b ≡ true → (a && b) ≡ false
    apart true true p = absurd (false≢true p)
    apart true false p = refl
    apart false b p = refl
split-append (w ∷ v ∷ ws) vs h = go (pairs w v) (split-append ws vs h) (split-append (v ∷ ws) vs h)
  where
    go : (b : Bool) → split (ws ++ vs) ≡ split ws ++ split vs → split (v ∷ (ws ++ vs)) ≡ split (v ∷ ws) ++ split vs
        → cond b (two w v ∷ split (ws ++ vs)) (one w ∷ split (v ∷ (ws ++ vs))) ≡ cond b (two w v ∷ split ws) (one w ∷ split (v ∷ ws)) ++ split vs
    go true p q = ap (λ (cs : List Call). two w v ∷ cs) p
    go false p q = ap (λ (cs : List Call). one w ∷ cs) q

pub one_of : (d : ℕ) (c : Call) (cs : List Call) → is_one_of d (c ∷ cs) ≡ true → (called_by d (caller_of c) ≡ true) × (cs ≡ [])
unfolding is_one_of
one_of d c [] h = (h, refl)
one_of d c (next ∷ cs) h = absurd (false≢true h)

pub oldest-first : (w : ℕ) (ws : List ℕ) → first (oldest w ws) ≡ w
unfolding oldest first
oldest-first w [] = refl
oldest-first w (v ∷ ws) = go (pairs w v)
  where
    go : (b : Bool) → first (cond b (two w v) (one w)) ≡ w
    go true = refl
    go false = refl

-- words that are one call of a domain begin with no word of kind 15
pub one-opens : (d : ℕ) (ws : List ℕ) → is_one_of d (split ws) ≡ true → opens ws ≡ true
unfolding opens caller_of called_by
one-opens d [] h = refl
one-opens d (w ∷ ws) h =
    let (by, _) = one_of d (oldest w ws) _ (ap (is_one_of d) (sym (split-oldest w ws)) ∙ h) in
    go (eqb (kind w) 15)
    (subst (λ (x : ℕ). called_by d (cond (eqb (kind x) 15) none (some (caller x))) ≡ true) (oldest-first w ws) by)
  where
    go : (b : Bool) → called_by d (cond b none (some (caller w))) ≡ true → not b ≡ true
    go true p = absurd (false≢true p)
    go false p = refl

-- ---- the first below a bound

-- i is the lowest index below k of which p holds
pub record Lowest (k : ℕ) (p : ℕ → Bool) (i : ℕ) : Type 0 where
  pub below : i < k
  pub holds : p i ≡ true
  pub least : (j : ℕ) → j < i → p j ≡ false

first-zero : (p : ℕ → Bool) → first_below zero p ≡ none
unfolding first_below
first-zero p = refl

first-before : (k : ℕ) (p : ℕ → Bool) (i : ℕ) → first_below k p ≡ some i → first_below (suc k) p ≡ some i
unfolding first_below
first-before k p i is = rw is

first-here : (k : ℕ) (p : ℕ → Bool) → first_below k p ≡ none → p k ≡ true → first_below (suc k) p ≡ some k
unfolding first_below
first-here k p is h = rw (is, h)

pub first-not : (k : ℕ) (p : ℕ → Bool) → first_below k p ≡ none → p k ≡ false → first_below (suc k) p ≡ none
unfolding first_below
first-not k p is h = rw (is, h)

-- none below e, and e passes
pub first_found : (k : ℕ) (p : ℕ → Bool) (e : ℕ) → first_below e p ≡ none → p e ≡ true → e < k → first_below k p ≡ some e
first_found zero p e is h l = absurd (not-suc-le-zero l)
first_found (suc k) p e is h l =
    ⊎_elim (λ less. first-before k p e (first_found k p e is h less))
    (λ same. subst (λ (x : ℕ). first_below (suc x) p ≡ some e) same (first-here e p is h))
    (below-or-last k e l)

-- the outcomes of the search for the first: it is found, or there is none
abbrev pub Searched : ℕ → (ℕ → Bool) → Type 0
Searched k p = ((i : ℕ) × (first_below k p ≡ some i) × Lowest k p i) ⊎ ((first_below k p ≡ none) × ((j : ℕ) → j < k → p j ≡ false))

pub first-cases : (k : ℕ) (p : ℕ → Bool) → Searched k p
first-cases zero p = inr (first-zero p, λ j l. absurd (not-suc-le-zero l))
first-cases (suc k) p =
    ⊎_elim
    (λ found. let (i, is, low) = found in inl (i, first-before k p i is, record { below = omega (arith, low.below); holds = low.holds; least = low.least }))
    (λ none. let (is, all) = none in last (p k) refl is all)
    (first-cases k p)
  where
    last : (b : Bool) → p k ≡ b → first_below k p ≡ none → ((j : ℕ) → j < k → p j ≡ false) → Searched (suc k) p
    last true e is all = inl (k, first-here k p is e, record { below = omega arith; holds = e; least = all })
    last false e is all = inr (first-not k p is e, λ j l. ⊎_elim (λ b. all j b) (λ same. ap p same ∙ e) (below-or-last k j l))

-- none passes
pub first-none : (k : ℕ) (p : ℕ → Bool) → ((i : ℕ) → i < k → p i ≡ false) → first_below k p ≡ none
first-none zero p fails = first-zero p
first-none (suc k) p fails = first-not k p (first-none k p (λ i l. fails i (omega arith))) (fails k (omega arith))

-- ---- whom a turn serves

-- A turn among n domains serves the call c of the domain d: d is the first that has one from the place on or, where none there has,
-- the first of all, and c is the oldest of its calls.
pub record Serving (n : ℕ) (s : Turns) (d : ℕ) (c : Call) : Type 0 where
  pub below : d < n
  pub order : ((s.place ≤ d) × ((e : ℕ) → s.place ≤ e → e < d → waits s e ≡ false)) ⊎ (((e : ℕ) → s.place ≤ e → e < n → waits s e ≡ false) × ((e : ℕ) → e < d → waits s e ≡ false))
  pub front : split (s.pending d) ≡ c ∷ split (drop (width c) (s.pending d))
  pub fits : width c ≤ length (s.pending d)

-- the oldest call of a domain that waits
record Oldest (d : ℕ) (ws : List ℕ) : Type 0 where
  call : Call
  served : serves_oldest d (split ws) ≡ serves d call
  front : split ws ≡ call ∷ split (drop (width call) ws)
  fits : width call ≤ length ws

oldest-of : (s : Turns) (d : ℕ) → waits s d ≡ true → Oldest d (s.pending d)
unfolding waits serves_oldest
oldest-of s d h = go (s.pending d) h
  where
    go : (ws : List ℕ) → not (eqb (length ws) 0) ≡ true → Oldest d ws
    go [] h = absurd (false≢true h)
    go (w ∷ ws) h = record { call = oldest w ws; served = rw (split-oldest w ws); front = split-oldest w ws; fits = oldest-width w ws }

-- a test from a place on
from-true : (place d : ℕ) (b : Bool) → (leb place d && b) ≡ true → (place ≤ d) × (b ≡ true)
from-true place d b h = (leb-true place d (and_left _ _ h), and_right (leb place d) b h)

from_false : (place d : ℕ) (b : Bool) → place ≤ d → (leb place d && b) ≡ false → b ≡ false
from_false place d b l h = sym (ap (λ (x : Bool). x && b) (le-leb place d l)) ∙ h

-- the search from the place of the turn on, and then from 0
pub waiting-up : (n : ℕ) (s : Turns) (d : ℕ) → first_pending_from n s s.place ≡ some d → first_waiting n s ≡ some d
unfolding first_waiting or_else
waiting-up n s d is = ap (λ (o : Option ℕ). or_else o (first_pending_from n s 0)) is

pub waiting-round : (n : ℕ) (s : Turns) → first_pending_from n s s.place ≡ none → first_waiting n s ≡ first_pending_from n s 0
unfolding first_waiting or_else
waiting-round n s is = ap (λ (o : Option ℕ). or_else o (first_pending_from n s 0)) is

pub from-cases : (n : ℕ) (s : Turns) (place : ℕ) → ((d : ℕ) × (first_pending_from n s place ≡ some d) × Lowest n (λ d. leb place d && waits s d) d) ⊎ ((first_pending_from n s place ≡ none) × ((e : ℕ) → e < n → (leb place e && waits s e) ≡ false))
unfolding first_pending_from
from-cases n s place = first-cases n (λ d. leb place d && waits s d)

pub turn-idle : (n : ℕ) (s : Turns) → first_waiting n s ≡ none → turn_of n s ≡ idle
unfolding turn_of serves_at
turn-idle n s is = ap (serves_at s) is

pub turn-of : (n : ℕ) (s : Turns) (d : ℕ) → first_waiting n s ≡ some d → turn_of n s ≡ serves_oldest d (split (s.pending d))
unfolding turn_of serves_at
turn-of n s d is = ap (serves_at s) is

-- a turn is idle where no domain waits, or serves
abbrev pub Turning : ℕ → Turns → Type 0
Turning n s =
    ((turn_of n s ≡ idle) × ((d : ℕ) → d < n → waits s d ≡ false))
    ⊎ ((d : ℕ) × (c : Call) × (turn_of n s ≡ serves d c) × Serving n s d c)

pub turn-cases : (n : ℕ) (s : Turns) → Turning n s
turn-cases n s =
    ⊎_elim
    (λ found.
    let (d, is, low) = found in
    let (after, w) = from-true s.place d (waits s d) low.holds in
    let o = oldest-of s d w in
    inr (
      d,
      o.call,
      turn-of n s d (waiting-up n s d is) ∙ o.served,
      record {
        below = low.below;
        order = inl (after, λ e l b. from_false s.place e _ l (low.least e b));
        front = o.front;
        fits = o.fits;
      },
    ))
    (λ none. let (is, all) = none in again is all)
    (from-cases n s s.place)
  where
    again : first_pending_from n s s.place ≡ none → ((e : ℕ) → e < n → (leb s.place e && waits s e) ≡ false) → Turning n s
    again is all =
        ⊎_elim
        (λ found.
        let (d, is', low) = found in
        let (_, w) = from-true 0 d (waits s d) low.holds in
        let o = oldest-of s d w in
        inr (
          d,
          o.call,
          turn-of n s d (waiting-round n s is ∙ is') ∙ o.served,
          record {
            below = low.below;
            order = inr (λ e l b. from_false s.place e _ l (all e b), λ e b. from_false 0 e _ (omega arith) (low.least e b));
            front = o.front;
            fits = o.fits;
          },
        ))
        (λ none'. let (is', all') = none' in inl (turn-idle n s (waiting-round n s is ∙ is'), λ e b. from_false 0 e _ (omega arith) (all' e b)))
        (from-cases n s 0)

-- ---- what is pending of the others

-- what holds of the words that replace d's and of the others' holds of all
pub replaced-all : (P : ℕ → List ℕ → Type 0) (f : ℕ → List ℕ) (d : ℕ) (ws : List ℕ) (e : ℕ) → P d ws → P e (f e) → P e (replaced f d ws e)
unfolding replaced
replaced-all P f d ws e here there = go (eqb d e) refl
  where
    go : (b : Bool) → eqb d e ≡ b → P e (cond b ws (f e))
    go true is = subst (λ (x : ℕ). P x ws) (eqb-true d e is) here
    go false is = there

pub replaced-else : (f : ℕ → List ℕ) (d : ℕ) (ws : List ℕ) (e : ℕ) → eqb d e ≡ false → replaced f d ws e ≡ f e
unfolding replaced
replaced-else f d ws e h = rw h

pub replaced-here : (f : ℕ → List ℕ) (d : ℕ) (ws : List ℕ) → replaced f d ws d ≡ ws
unfolding replaced
replaced-here f d ws = rw (eq-eqb d d refl)
