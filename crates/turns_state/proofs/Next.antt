-- Laws of whose turn is next (specs/State: found, next_to_serve). Assumes nothing.
use mathlib.Core.Path.{◌≡◌, refl, sym, ap, ◌∙◌}
use mathlib.Core.Bool.{Bool, true, false}
use mathlib.Core.Logic.{◌⊎◌, ⊎_elim, ◌⊎◌.inl, ◌⊎◌.inr}
use mathlib.Core.List.{List}
use mathlib.Core.Option as maybe
use mathlib.Core.Option.{none, some}
use Rattle.std.specs.Prelude.{Option, Some, None, MatchOption}
use Rattle.std.proofs.lemmas.Option.{none-some, same_Some}
use Prim.Native.Nat.{ℕ, ◌<◌, ◌≤◌}
use native.Mathlib.Omega.{arith}
use borrow.Author.Tests.{eqb-true, eqb-false, eq-eqb, ne_eqb}
use lib.Dec.{eqb, leb}
use lib.ListN.{length}
use Rattle.machine.proofs.Bools.{and_right}
use Rattle.machine.specs.Below.{first_below}
use Rattle.turns_theory.specs.Turns.{Turns, waits, first_pending_from, or_else, first_waiting}
use Rattle.turns_theory.proofs.Pending.{waiting-up, waiting-round, from-cases, first_found, first-none}
use Rattle.turns_state.specs.State.{state_length, turns_in, found, next_to_serve}

-- the first that is found is a domain with a call
pub record Found (n : ℕ) (s : Turns) (d : ℕ) : Type 0 where
  pub below : d < n
  pub waits : waits s d ≡ true

-- a search: one is found, or none
pub from_found : (n : ℕ) (s : Turns) (place : ℕ) → ((d : ℕ) × (first_pending_from n s place ≡ some d) × Found n s d) ⊎ (first_pending_from n s place ≡ none)
from_found n s place =
    ⊎_elim (λ f. let (d, is, low) = f in inl (d, is, record { below = low.below; waits = and_right (leb place d) _ low.holds })) (λ f. inr f.0)
    (from-cases n s place)

pub waiting-found : (n : ℕ) (s : Turns) → ((d : ℕ) × (first_waiting n s ≡ some d) × Found n s d) ⊎ (first_waiting n s ≡ none)
waiting-found n s =
    ⊎_elim (λ f. let (d, is, it) = f in inl (d, waiting-up n s d is, it))
    (λ is. ⊎_elim (λ f. let (d, is', it) = f in inl (d, waiting-round n s is ∙ is', it)) (λ is'. inr (waiting-round n s is ∙ is')) (from_found n s 0))
    (from_found n s s.place)

-- what a search of the domains below n by a test returns
pub search-found : (n : ℕ) (p : ℕ → Bool) (r : Option ℕ)
    → MatchOption r ((k : ℕ) → 0 ≤ k → k < n → p k ≡ false) (λ i. (0 ≤ i) × (i < n) × (p i ≡ true) × ((k : ℕ) → 0 ≤ k → k < i → p k ≡ false))
    → r ≡ found (first_below n p)
search-found n p None fails = sym (ap found (first-none n p (λ i l. fails i (omega arith) l)))
search-found n p (Some i) (_, l, is, fails) = sym (ap found (first_found n p i (first-none i p (λ j b. fails j (omega arith) b)) is l))

-- from the place of the turn on, and then from 0
pub one-there : (n : ℕ) (s : Turns) (d : ℕ) → Some d ≡ found (first_pending_from n s s.place) → Some d ≡ found (first_waiting n s)
unfolding first_waiting or_else
one-there n s d is = go (first_pending_from n s s.place) is
  where
    go : (o : maybe.Option ℕ) → Some d ≡ found o → Some d ≡ found (or_else o (first_pending_from n s 0))
    go none e = absurd (none-some d (sym e))
    go (some x) e = e

pub none-there : (n : ℕ) (s : Turns) → None ≡ found (first_pending_from n s s.place) → found (first_pending_from n s 0) ≡ found (first_waiting n s)
unfolding first_waiting or_else
none-there n s is = go (first_pending_from n s s.place) is
  where
    go : (o : maybe.Option ℕ) → None ≡ found o → found (first_pending_from n s 0) ≡ found (or_else o (first_pending_from n s 0))
    go none e = refl
    go (some d) e = absurd (none-some d e)

-- ---- whom a turn is to serve

pub next-size : (n : ℕ) (ws : List ℕ) → (length ws ≡ state_length n → ⊥) → next_to_serve n ws ≡ None
unfolding next_to_serve
next-size n ws h = rw (ne_eqb (length ws) (state_length n) h)

pub next-waiting : (n : ℕ) (ws : List ℕ) → length ws ≡ state_length n → next_to_serve n ws ≡ found (first_waiting n (turns_in ws))
unfolding next_to_serve
next-waiting n ws h = rw (eq-eqb (length ws) (state_length n) h)

-- whoever is to be served is the first that waits, in a state of the right length
pub next-may : (n : ℕ) (ws : List ℕ) (d : ℕ) → Some d ≡ next_to_serve n ws → (length ws ≡ state_length n) × (first_waiting n (turns_in ws) ≡ some d)
next-may n ws d is = go (eqb (length ws) (state_length n)) refl
  where
    one : (o : maybe.Option ℕ) → Some d ≡ found o → o ≡ some d
    one none e = absurd (none-some d (sym e))
    one (some x) e = ap (λ (y : ℕ). some y) (sym (same_Some d x e))

    go : (b : Bool) → eqb (length ws) (state_length n) ≡ b → (length ws ≡ state_length n) × (first_waiting n (turns_in ws) ≡ some d)
    go true e =
        let size = eqb-true _ _ e in
        (size, one (first_waiting n (turns_in ws)) (is ∙ next-waiting n ws size))
    go false e = absurd (none-some d (sym (is ∙ next-size n ws (eqb-false _ _ e))))

-- nobody is to be served where nobody waits, in a state of the right length
pub next-none : (n : ℕ) (ws : List ℕ) → length ws ≡ state_length n → None ≡ next_to_serve n ws → first_waiting n (turns_in ws) ≡ none
next-none n ws size is = go (first_waiting n (turns_in ws)) (is ∙ next-waiting n ws size)
  where
    go : (o : maybe.Option ℕ) → None ≡ found o → o ≡ none
    go none e = refl
    go (some d) e = absurd (none-some d e)
