-- The number of an outcome, 0 where it has none, fits the high half of one word. Assumes nothing.
use Rattle.std.proofs.Common.{◌≡◌, refl, ℕ, ◌<◌, List, arith}
use Rattle.std.specs.Prelude.{Result, Ok, Err}
use Rattle.std.specs.Result.{result_unwrap_or}
use Rattle.machine.specs.Promise.{RunPromise}
use Rattle.machine.proofs.Promise.{calls-few}
use Rattle.run_result.specs.declared.EntryRefusal.{EntryRefusal}
use Rattle.run_result.specs.Entry.{ran_code, ran_calls}
use Rattle.holders.specs.declared.AskRefusal.{AskRefusal}
use Rattle.holders.specs.Asked.{ReachReported, asked_code, asked_set}
use Rattle.holders.proofs.Reported.{asked-small}
use Rattle.components.specs.declared.DomainRefusal.{DomainRefusal}
use Rattle.components.specs.Reported.{ComponentReported, component_code, component_members}
use Rattle.components.proofs.Reported.{members-small}
use Rattle.influence.specs.Reported.{InfluenceReported, influence_code, influence_set}
use Rattle.influence.proofs.Reported.{set-small}
use Rattle.repair.specs.declared.RepairRefusal.{RepairRefusal}
use Rattle.repair.specs.Repair.{RepairPromise}
use Rattle.repair.specs.Answer.{repaired_code, repaired_count}
use Rattle.repair.proofs.Outcomes.{count_small}

ran : (r : Result ℕ EntryRefusal) → result_unwrap_or r 0 ≡ ran_calls r
ran (Ok calls) = refl
ran (Err e) = refl

asked : (r : Result ℕ AskRefusal) → result_unwrap_or r 0 ≡ asked_set r
asked (Ok set) = refl
asked (Err e) = refl

component : (r : Result ℕ DomainRefusal) → result_unwrap_or r 0 ≡ component_members r
component (Ok members) = refl
component (Err e) = refl

influence : (r : Result ℕ DomainRefusal) → result_unwrap_or r 0 ≡ influence_set r
influence (Ok set) = refl
influence (Err e) = refl

repaired : (r : Result ℕ RepairRefusal) → result_unwrap_or r 0 ≡ repaired_count r
repaired (Ok count) = refl
repaired (Err e) = refl

pub ran-few : (t ws space holders answers end kept : List ℕ) (r : Result ℕ EntryRefusal)
    → RunPromise t ws space holders (ran_code r) (ran_calls r) answers end kept
    → result_unwrap_or r 0 < 65536
ran-few t ws space holders answers end kept r p = omega (arith, ran r, p.same_calls, calls-few t ws space holders)

pub asked-few : (ws : List ℕ) (d : ℕ) (r : Result ℕ AskRefusal)
    → ReachReported ws d (asked_code r) (asked_set r)
    → result_unwrap_or r 0 < 65536
asked-few ws d r p = omega (arith, asked r, p.same_set, asked-small ws d)

pub members-few : (t : List ℕ) (d : ℕ) (r : Result ℕ DomainRefusal)
    → ComponentReported t d (component_code r) (component_members r)
    → result_unwrap_or r 0 < 65536
members-few t d r p = omega (arith, component r, p.same_members, members-small t d)

pub influence-few : (t : List ℕ) (s d : ℕ) (r : Result ℕ DomainRefusal)
    → InfluenceReported t s d (influence_code r) (influence_set r)
    → result_unwrap_or r 0 < 65536
influence-few t s d r p = omega (arith, influence r, p.same_set, set-small t s d)

pub altered-few : (t list t' list' : List ℕ) (r : Result ℕ RepairRefusal)
    → RepairPromise t list (repaired_code r) (repaired_count r) t' list'
    → result_unwrap_or r 0 < 65536
altered-few t list t' list' r p = omega (arith, repaired r, p.same_count, count_small t list)
