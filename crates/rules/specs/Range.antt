-- The range tests: the places that test the indices and rights that a call names, by n and m alone: 12, 16, 20 and 21
-- (document 01, 'Where each number is checked').
use Rattle.std.specs.Prelude.{ℕ, Result, Ok, Err, ⊤, cond, not, ◌&&◌, ltb}
use Rattle.machine.specs.Right.{is_set}
use Rattle.machine.specs.Machine.{Decision, Decision.refused}
use Rattle.machine.specs.Guards.{place}
use Rattle.calls.specs.Number.{number_of}
use Rattle.calls.specs.declared.Refusal.{Refusal}
use Rattle.calls.specs.declared.Call.{Call}
use Rattle.calls.specs.declared.Call.TheVariants.{LookUp, Send, Receive, MyEndpoints, MyRights, Grant, Remove, Revoke, Refused}

-- the refusal by the tests, or what comes next where none failed
abbrev pub followed : Result ⊤ Refusal → Decision → Decision
followed (Ok x) next = next
followed (Err r) next = refused (number_of r)

-- place 12: the caller u
unfoldable pub caller_number : ℕ → ℕ → Decision → Decision
caller_number n u next = place (not (ltb u n)) 12 next

-- place 12 of a call that is refused without a table: it comes after 10 and 11
unfoldable pub refused_numbers : ℕ → ℕ → Refusal → Decision → Decision
refused_numbers n u r next = cond (ltb (number_of r) 12) next (caller_number n u next)

-- places 12 and 16: the endpoint e
unfoldable pub endpoint_numbers : ℕ → ℕ → ℕ → ℕ → Decision → Decision
endpoint_numbers n m u e next = caller_number n u (place (not (ltb e m)) 16 next)

-- places 12, 20 and 21 of a grant and of a revoke: the target g, the recipient or holder h, the rights r
unfoldable pub grant_numbers : ℕ → ℕ → ℕ → ℕ → ℕ → Decision → Decision
grant_numbers n u g h r next =
    caller_number n u (place (not (ltb g n && ltb h n)) 20 (place (not (is_set r)) 21 next))

-- places 12, 20 and 21 of a remove: the target g, the rights r
unfoldable pub remove_numbers : ℕ → ℕ → ℕ → ℕ → Decision → Decision
remove_numbers n u g r next = caller_number n u (place (not (ltb g n)) 20 (place (not (is_set r)) 21 next))

-- all range tests of a call, before what comes next
unfoldable pub call_numbers : ℕ → ℕ → Call → Decision → Decision
call_numbers n m (Refused u r) next = refused_numbers n u r next
call_numbers n m (LookUp u x) next = caller_number n u next
call_numbers n m (Send u e message) next = endpoint_numbers n m u e next
call_numbers n m (Receive u e) next = endpoint_numbers n m u e next
call_numbers n m (MyEndpoints u) next = caller_number n u next
call_numbers n m (MyRights u) next = caller_number n u next
call_numbers n m (Grant u g h r) next = grant_numbers n u g h r next
call_numbers n m (Remove u g r) next = remove_numbers n u g r next
call_numbers n m (Revoke u g h r) next = grant_numbers n u g h r next
