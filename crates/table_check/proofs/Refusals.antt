-- What is so of every refusal of a table. Assumes nothing.
use mathlib.Core.Path.{◌≡◌}
use native.Mathlib.Omega.{arith}
use Rattle.table_check.specs.Checked.{refusal_code}
use Rattle.table_check.specs.declared.TableRefusal.{TableRefusal}
use Rattle.table_check.specs.declared.TableRefusal.TheVariants.{BadHeader, BadLength, BadRights, BadEndpoint}

-- a refusal has a code
pub refusal-code : (r : TableRefusal) → refusal_code r ≡ 0 → ⊥
refusal-code BadHeader e = omega arith
refusal-code BadLength e = omega arith
refusal-code BadRights e = omega arith
refusal-code BadEndpoint e = omega arith
