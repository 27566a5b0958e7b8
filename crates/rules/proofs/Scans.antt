-- Loops over the indices below k: the first that passes a test. Assumes nothing.
use mathlib.Core.Path.{◌≡◌, sym, ap, ap₂, ◌∙◌}
use mathlib.Core.Bool.{Bool, true, false, cond}
use mathlib.Core.Logic.{⊎_elim}
use mathlib.Core.Option.{Option, none, some}
use Prim.Native.Nat.{ℕ, zero, suc, ◌+◌, ◌<◌}
use native.Mathlib.Nat.{not-suc-le-zero}
use native.Mathlib.Numerals.{add-one}
use Rattle.machine.specs.Below.{first_below}
use Rattle.machine.proofs.Below.{below-or-last}

abbrev next : ℕ → Option ℕ → Bool → Option ℕ
next k o b = elim o [ none ↦ cond b (some k) none | some i ↦ some i ]

-- none below e, and e fails too
pub none_more : (p : ℕ → Bool) (e : ℕ) → first_below e p ≡ none → p e ≡ false → first_below (e + 1) p ≡ none
unfolding first_below
none_more p e h fails = ap (λ (i : ℕ). first_below i p) (add-one e) ∙ ap₂ (next e) h fails

-- none below e, and e passes
pub found : (p : ℕ → Bool) (k e : ℕ) → first_below e p ≡ none → p e ≡ true → e < k → first_below k p ≡ some e
unfolding first_below
found p zero e h passes l = absurd (not-suc-le-zero l)
found p (suc k) e h passes l =
    ⊎_elim (λ less. ap (λ (o : Option ℕ). next k o (p k)) (found p k e h passes less))
    (λ same.
    ap₂ (next k) (ap (λ (i : ℕ). first_below i p) (sym same) ∙ h) (ap p (sym same) ∙ passes) ∙ ap some (sym same))
    (below-or-last k e l)
