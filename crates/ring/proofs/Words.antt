-- A ring's words by how many there are. Assumes nothing.
use Rattle.std.proofs.Common.{◌≡◌, ℕ, List, length}
use borrow.Author.Tests.{eq-eqb, ne_eqb}
use Rattle.ring_theory.specs.Ring.{of_twelve}

-- words that aren't twelve are left, and twelve are not
pub not-twelve : {A : Type 0} (ws : List ℕ) (done left : A) → (length ws ≡ 12 → ⊥) → left ≡ of_twelve ws done left
unfolding of_twelve
not-twelve ws done left h = rw (ne_eqb (length ws) 12 h)

pub of-twelve : {A : Type 0} (ws : List ℕ) (done left : A) {x : A} → length ws ≡ 12 → x ≡ done → x ≡ of_twelve ws done left
unfolding of_twelve
of-twelve ws done left h e = rw (eq-eqb (length ws) 12 h) e
