-- The codes of the refusals: none is above 23. Assumes nothing.
use Prim.Native.Nat.{◌≤◌}
use native.Mathlib.Omega.{arith}
use Rattle.std.specs.Prelude.{Result, Ok, Err}
use Rattle.result_code.specs.Code.{result_code}
use Rattle.calls.specs.Number.{number_of}
use Rattle.calls.specs.declared.Refusal.{Refusal}
use Rattle.calls.specs.declared.Refusal.TheVariants.{Stray, UnknownKind, UnknownCaller, UnusedField, NoSecondWord, NoSuchName, NoSuchEndpoint, MayNotSend, NotOwner, NothingWaiting, NoSuchDomain, BadRights, LacksRight, NoInfluence}

pub number-most : (r : Refusal) → number_of r ≤ 23
number-most Stray = omega arith
number-most UnknownKind = omega arith
number-most UnknownCaller = omega arith
number-most UnusedField = omega arith
number-most NoSecondWord = omega arith
number-most NoSuchName = omega arith
number-most NoSuchEndpoint = omega arith
number-most MayNotSend = omega arith
number-most NotOwner = omega arith
number-most NothingWaiting = omega arith
number-most NoSuchDomain = omega arith
number-most BadRights = omega arith
number-most LacksRight = omega arith
number-most NoInfluence = omega arith

pub code_most : {A : Type 0} (o : Result A Refusal) → result_code number_of o ≤ 23
code_most (Ok x) = omega arith
code_most (Err r) = number-most r
