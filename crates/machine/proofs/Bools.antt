-- Laws of tests: conjunctions and disjunctions from their parts and back, and choices by a test.
-- Assumes nothing.
use mathlib.Core.Path.{◌≡◌, refl, ap, ◌∙◌}
use mathlib.Core.Bool.{Bool, true, false, cond, ◌&&◌, ◌||◌, true≢false, false≢true}
use mathlib.Core.Logic.{◌⊎◌, ◌⊎◌.inl, ◌⊎◌.inr}

pub and_left : (a b : Bool) → (a && b) ≡ true → a ≡ true
and_left true b h = refl
and_left false b h = h

pub and_right : (a b : Bool) → (a && b) ≡ true → b ≡ true
and_right true b h = h
and_right false b h = absurd (false≢true h)

pub and_intro : {a b : Bool} → a ≡ true → b ≡ true → (a && b) ≡ true
and_intro p q = rw (p, q)

pub or_cases : (a b : Bool) → (a || b) ≡ true → (a ≡ true) ⊎ (b ≡ true)
or_cases true b h = inl refl
or_cases false b h = inr h

pub or_right : (a b : Bool) → b ≡ true → (a || b) ≡ true
or_right true b h = refl
or_right false b h = h

pub or-none-left : (a b : Bool) → (a || b) ≡ false → a ≡ false
or-none-left true b h = absurd (true≢false h)
or-none-left false b h = refl

pub or-none-right : (a b : Bool) → (a || b) ≡ false → b ≡ false
or-none-right true b h = absurd (true≢false h)
or-none-right false b h = h

-- a Bool is one or the other
pub either : (b : Bool) → (b ≡ true) ⊎ (b ≡ false)
either true = inl refl
either false = inr refl

-- what holds of both arms, each under its own test, holds of a choice
pub cond-elim {ℓ} : {A : Type ℓ} (P : A → Type 0) (b : Bool) {x y : A} → (b ≡ true → P x) → (b ≡ false → P y) → P (cond b x y)
cond-elim P true f g = f refl
cond-elim P false f g = g refl

-- equal tests and, where they hold, equal first arms make equal choices
pub cond_same : {A : Type 0} {b b' : Bool} {x y : A} (z : A) → b ≡ b' → (b' ≡ true → x ≡ y) → cond b x z ≡ cond b' y z
cond_same {A} {b} {b'} {x} {y} z e f = ap (λ (t : Bool). cond t x z) e ∙ go b' f
  where
    go : (t : Bool) → (t ≡ true → x ≡ y) → cond t x z ≡ cond t y z
    go true g = g refl
    go false g = refl
