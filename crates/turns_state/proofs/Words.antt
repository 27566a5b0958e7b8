-- Laws of the words that a domain hands in and of the oldest of those that are pending (specs/State, calls::split).
-- Assumes nothing.
use mathlib.Core.Path.{◌≡◌, refl, sym, ap, ◌∙◌}
use mathlib.Core.Bool.{Bool, true, false, cond, not, ◌&&◌}
use mathlib.Core.List.{List, [], ◌∷◌}
use mathlib.Core.Option.{none, some}
use Prim.Native.Nat.{ℕ, suc, ◌-◌, ◌<◌, ◌≤◌}
use native.Mathlib.Decide.{dec_lt}
use native.Mathlib.Omega.{arith}
use borrow.Author.Tests.{eq-eqb, ne_eqb, lt-ltb, le-ltb}
use lib.Dec.{eqb}
use lib.ListN.{length, get_or, drop, length-drop}
use Rattle.machine.specs.Word.{kind, caller}
use Rattle.machine.specs.Call.{Call, first, caller_of, pairs, split, Call.one, Call.two}
use Rattle.machine.specs.DomainSet.{called_by}
use Rattle.calls.specs.Split.{call_of, second_at, width_of}
use Rattle.std.specs.Prelude.{Option, None, Some}
use Rattle.turns_theory.specs.Turns.{is_one_of, width}
use Rattle.turns_theory.proofs.Pending.{oldest, split-oldest, oldest-width, oldest-first}
use Rattle.turns_state.specs.State.{is_call_of}

-- how many words a call has, by its second word
pub width-of : (w : ℕ) (s : Option ℕ) → width_of s ≡ width (call_of w s)
width-of w None = refl
width-of w (Some v) = refl

-- the oldest call of words is their first with its second word
pub second-oldest : (w : ℕ) (ws : List ℕ) → call_of w (second_at (w ∷ ws) 0) ≡ oldest w ws
unfolding second_at oldest
second-oldest w [] = ap (λ (b : Bool). call_of w (cond (b && pairs w 0) (Some 0) None)) (le-ltb 1 1 (omega arith))
second-oldest w (v ∷ ws) =
    ap (λ (b : Bool). call_of w (cond (b && pairs w v) (Some v) None)) (lt-ltb 1 (suc (suc (length ws))) (omega arith)) ∙ go (pairs w v)
  where
    go : (b : Bool) → call_of w (cond b (Some v) None) ≡ cond b (two w v) (one w)
    go true = refl
    go false = refl

-- a first word of kind 15 is no call's, and any other is of its caller
pub stray-of-none : (w d : ℕ) → kind w ≡ 15 → false ≡ is_call_of w d
unfolding is_call_of
stray-of-none w d h = rw (eq-eqb _ _ h)

pub call-of-caller : (w d : ℕ) (b : Bool) → (kind w ≡ 15 → ⊥) → b ≡ eqb (caller w) d → b ≡ is_call_of w d
unfolding is_call_of
call-of-caller w d b h is = rw (ne_eqb _ _ h) is

-- a call's caller, by its first word
called-by : (c : Call) (d : ℕ) → called_by d (caller_of c) ≡ is_call_of (first c) d
unfolding caller_of called_by is_call_of
called-by c d = go (eqb (kind (first c)) 15)
  where
    go : (b : Bool) → called_by d (cond b none (some (caller (first c)))) ≡ (not b && eqb (caller (first c)) d)
    go true = refl
    go false = refl

-- exactly one call of a domain
one-or-more : (d : ℕ) (c : Call) (ws : List ℕ) → is_one_of d (c ∷ split ws) ≡ (called_by d (caller_of c) && eqb (length ws) 0)
unfolding is_one_of split
one-or-more d c [] = sym (and-true (called_by d (caller_of c)))
  where
    and-true : (b : Bool) → (b && true) ≡ b
    and-true true = refl
    and-true false = refl
one-or-more d c (w ∷ ws) =
    ap (is_one_of d) (ap (λ (cs : List Call). c ∷ cs) (split-oldest w ws))
    ∙ sym (ap (λ (b : Bool). called_by d (caller_of c) && b) (ne_eqb (suc (length ws)) 0 (λ z. omega arith)) ∙ and-false (called_by d (caller_of c)))
  where
    and-false : (b : Bool) → (b && false) ≡ false
    and-false true = refl
    and-false false = refl

-- no words are no call
pub no_call : (d : ℕ) (ws : List ℕ) → length ws ≡ 0 → is_one_of d (split ws) ≡ false
unfolding is_one_of split
no_call d [] h = refl
no_call d (w ∷ ws) h = absurd (omega arith)

-- words that are there, by their first and the count of words of the call that it begins
one-call : (d w : ℕ) (ws : List ℕ) → is_one_of d (split (w ∷ ws)) ≡ (is_call_of w d && eqb (length (drop (width (oldest w ws)) (w ∷ ws))) 0)
one-call d w ws =
    ap (is_one_of d) (split-oldest w ws)
    ∙ one-or-more d (oldest w ws) (drop (width (oldest w ws)) (w ∷ ws))
    ∙ ap (λ (b : Bool). b && eqb (length (drop (width (oldest w ws)) (w ∷ ws))) 0) (called-by (oldest w ws) d ∙ ap (λ (x : ℕ). is_call_of x d) (oldest-first w ws))

-- the first word isn't one of the domain's calls
pub not-its-call : (d : ℕ) (ws : List ℕ) → 1 ≤ length ws → is_call_of (get_or ws 0 0) d ≡ false → is_one_of d (split ws) ≡ false
not-its-call d [] l h = absurd (omega arith)
not-its-call d (w ∷ ws) l h = one-call d w ws ∙ ap (λ (b : Bool). b && eqb (length (drop (width (oldest w ws)) (w ∷ ws))) 0) h

-- it is: then it depends on whether words are left
pub its-call : (d : ℕ) (ws : List ℕ) → 1 ≤ length ws → is_call_of (get_or ws 0 0) d ≡ true → is_one_of d (split ws) ≡ eqb (length ws) (width_of (second_at ws 0))
its-call d [] l h = absurd (omega arith)
its-call d (w ∷ ws) l h =
    one-call d w ws
    ∙ ap (λ (b : Bool). b && eqb (length (drop (width (oldest w ws)) (w ∷ ws))) 0) h
    ∙ ap (λ (k : ℕ). eqb k 0) (length-drop (width (oldest w ws)) (w ∷ ws))
    ∙ all (width (oldest w ws)) (oldest-width w ws)
    ∙ ap (λ (c : Call). eqb (suc (length ws)) (width c)) (sym (second-oldest w ws))
    ∙ ap (eqb (suc (length ws))) (sym (width-of w (second_at (w ∷ ws) 0)))
  where
    all : (k : ℕ) → k ≤ suc (length ws) → eqb (suc (length ws) - k) 0 ≡ eqb (suc (length ws)) k
    all k b = go (dec_lt k (suc (length ws)))
      where
        go : Dec (k < suc (length ws)) → eqb (suc (length ws) - k) 0 ≡ eqb (suc (length ws)) k
        go (yes less) = ne_eqb (suc (length ws) - k) 0 (λ z. omega (arith, less, z)) ∙ sym (ne_eqb (suc (length ws)) k (λ z. omega (arith, less, z)))
        go (no more) = eq-eqb (suc (length ws) - k) 0 (omega (arith, b, more)) ∙ sym (eq-eqb (suc (length ws)) k (omega (arith, b, more)))
