-- A decision of the code that isn't a refusal has passed its places. Assumes nothing.
use mathlib.Core.Path.{◌≡◌, refl}
use mathlib.Core.Bool.{Bool, true, false}
use Prim.Native.Nat.{ℕ}
use Rattle.std.specs.Prelude.{Ok}
use Rattle.machine.specs.Machine as machine
use Rattle.machine.specs.Guards.{place}
use Rattle.rules.specs.Decision.{decision_of}
use Rattle.rules.specs.declared.Decision.{Decision}
use Rattle.rules.specs.declared.Decision.TheVariants.{Sends, Receives, Grants, Removes, Revokes}

pub not-refused : (x : Decision) (k : ℕ) → decision_of (Ok x) ≡ machine.refused k → ⊥
not-refused (Sends i j) k e = cc
not-refused (Receives i) k e = cc
not-refused (Grants g h r) k e = cc
not-refused (Removes g u r) k e = cc
not-refused (Revokes g h r) k e = cc

pub passed : (x : Decision) (b : Bool) (k : ℕ) (next : machine.Decision) → decision_of (Ok x) ≡ place b k next → decision_of (Ok x) ≡ next
unfolding place
passed x true k next e = absurd (not-refused x k e)
passed x false k next e = e

-- and the place's condition is false
pub clear : (x : Decision) (b : Bool) (k : ℕ) (next : machine.Decision) → decision_of (Ok x) ≡ place b k next → b ≡ false
unfolding place
clear x true k next e = absurd (not-refused x k e)
clear x false k next e = refl
