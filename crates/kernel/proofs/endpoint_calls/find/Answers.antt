-- `endpoint_calls::find` meets its contract. The loop's invariant: of the endpoints looked at, the one found is the first that has
-- the name. Assumes nothing.
use mathlib.Core.Path.{sym, ap, subst, ◌∙◌}
use mathlib.Core.Bool.{Bool}
use mathlib.Core.List.{List}
use Prim.Native.Nat.{ℕ}
use native.Mathlib.Omega.{arith}
use lib.Dec.{eqb}
use borrow.Author.Tests.{eq-eqb, ne_eqb}
use Rattle.machine.specs.Below.{first_below}
use Rattle.machine.specs.Table.{endpoint}
use Rattle.machine.specs.Queue as queue
use Rattle.machine.specs.Machine.{named}
use Rattle.rules.specs.Access.{found_of}
use Rattle.kernel.proofs.WrittenWords.{name-read}
use Rattle.kernel.proofs.LastToFirst.{From, passed, failed, all-some, all_none}
use Rattle.kernel.proofs.endpoint_calls.find.Goals as goal

abbrev has : List ℕ → ℕ → ℕ → Bool
has t x e = eqb (queue.name (endpoint t e)) x

pub loop-e-preserved-then-word-name : goal.loop-e-preserved-then-word-name
loop-e-preserved-then-word-name c =
    passed _ _ c.loop-e.e _ c.loop-e.found c.loop-e.invariant (omega arith)
    (eq-eqb _ _ (sym (name-read _ _ _ c.place-at.ensures.value) ∙ c.if-word-name.true))

pub loop-e-preserved : goal.loop-e-preserved
loop-e-preserved c =
    failed _ _ c.loop-e.e _ c.loop-e.found c.loop-e.invariant (omega arith)
    (ne_eqb _ _ (λ same. c.if-word-name.false (name-read _ _ _ c.place-at.ensures.value ∙ same)))

pub returns-then-found-m : goal.returns-then-found-m
unfolding found_of named
returns-then-found-m c =
    let p = has c.args.table.now c.args.name in
    let all : From p c.args.m 0 c.loop-e.found = subst (λ (e : ℕ). From p c.args.m e c.loop-e.found) (omega (arith, c.loop-e-test.false)) c.loop-e.invariant in
    sym (ap (λ (k : ℕ). first_below k p) (sym c.requires.same_endpoints) ∙ all-some p _ _ all c.if-found-m.true)

pub returns-else-found-m : goal.returns-else-found-m
unfolding found_of named
returns-else-found-m c =
    let p = has c.args.table.now c.args.name in
    let all : From p c.args.m 0 c.loop-e.found = subst (λ (e : ℕ). From p c.args.m e c.loop-e.found) (omega (arith, c.loop-e-test.false)) c.loop-e.invariant in
    sym (ap (λ (k : ℕ). first_below k p) (sym c.requires.same_endpoints) ∙ all_none p _ _ all (omega (arith, c.if-found-m.false)))
