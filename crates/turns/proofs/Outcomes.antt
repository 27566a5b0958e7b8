-- Every refusal has a code; the code of a turn and how many calls it served are small; and what a `?` returns where it stops. Assumes
-- nothing.
use mathlib.Core.Path.{◌≡◌, ap}
use Prim.Native.Nat.{◌≤◌}
use native.Mathlib.Omega.{arith}
use Rattle.std.specs.Prelude.{Result, Ok, Err, IsErrAnd}
use Rattle.table_check.specs.Checked.{refusal_code}
use Rattle.table_check.specs.declared.TableRefusal.{TableRefusal}
use Rattle.table_check.specs.declared.TableRefusal.TheVariants.{BadHeader, BadLength, BadRights, BadEndpoint}
use Rattle.run_result.specs.Entry.{entry_refusal_code}
use Rattle.run_result.specs.declared.EntryRefusal.{EntryRefusal}
use Rattle.run_result.specs.declared.EntryRefusal.TheVariants.{ListTooLong, BadTable, SpaceTooSmall, BadHolders}
use Rattle.turns.specs.declared.Turned.{Turned}
use Rattle.turns.specs.declared.Turned.TheVariants.{Idle, Served}
use Rattle.turns.specs.declared.TurnRefusal.{TurnRefusal}
use Rattle.turns.specs.declared.TurnRefusal.TheVariants.{Entry, BadTurns}
use Rattle.turns.specs.Codes.{turned_code, turned_served}

pub table-some : (r : TableRefusal) → refusal_code r ≡ 0 → ⊥
table-some BadHeader e = omega arith
table-some BadLength e = omega arith
table-some BadRights e = omega arith
table-some BadEndpoint e = omega arith

pub entry-some : (r : EntryRefusal) → entry_refusal_code r ≡ 0 → ⊥
entry-some ListTooLong e = omega arith
entry-some (BadTable r) e = table-some r e
entry-some SpaceTooSmall e = omega arith
entry-some BadHolders e = omega arith

table-code : (r : TableRefusal) → refusal_code r ≤ 99
table-code BadHeader = omega arith
table-code BadLength = omega arith
table-code BadRights = omega arith
table-code BadEndpoint = omega arith

entry-code : (r : EntryRefusal) → entry_refusal_code r ≤ 99
entry-code ListTooLong = omega arith
entry-code (BadTable r) = table-code r
entry-code SpaceTooSmall = omega arith
entry-code BadHolders = omega arith

pub code-small : (r : Result Turned TurnRefusal) → turned_code r ≤ 99
code-small (Err (Entry r)) = entry-code r
code-small (Err BadTurns) = omega arith
code-small (Ok x) = omega arith

pub served-small : (r : Result Turned TurnRefusal) → turned_served r ≤ 1
served-small (Err r) = omega arith
served-small (Ok Idle) = omega arith
served-small (Ok Served) = omega arith

-- what a `?` returns where it stops
pub stopped : {T E : Type 0} (r : Result T E) (e : E) → IsErrAnd r (λ (x : E). x ≡ e) → r ≡ Err e
stopped (Err x) e is = ap (λ (y : _). Err y) is
stopped (Ok x) e is = absurd is
