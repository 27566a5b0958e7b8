-- The holders that a step left say who reaches a domain in the table that it left (specs/AskedAfterStep). Assumes nothing.
use Prim.Native.Nat.{ℕ}
use mathlib.Core.Path.{◌≡◌, refl, sym}
use mathlib.Core.List.{List}
use native.Mathlib.Omega.{arith}
use lib.Dec.{eqb}
use lib.ListN.{length}
use Rattle.machine.specs.Check.{table_code}
use Rattle.machine.specs.Machine.{step}
use Rattle.machine.specs.Holders.{holders_of}
use Rattle.machine.proofs.Bools.{cond-elim}
use Rattle.machine.proofs.Step.{stays-accepted}
use Rattle.holders_theory.proofs.Reported.{asked-now}
use borrow.Author.Tests.{eqb-true}
use Rattle.kernel.specs.Step.{step_entry_code}
use Rattle.kernel.specs.AskedAfterStep.{AskedAfterStep}

-- a step that isn't refused got an accepted table
accepted : (t : List ℕ) (lent : ℕ) → step_entry_code t lent ≡ 0 → table_code t ≡ 0
unfolding step_entry_code
accepted t lent =
    cond-elim (λ (x : ℕ). x ≡ 0 → table_code t ≡ 0) (eqb (table_code t) 0) (λ e _. eqb-true _ _ e) (λ _ h. h)

pub asked-after-step : AskedAfterStep
asked-after-step t c holders a t' kept d u p l =
    let fine : step_entry_code t (length holders) ≡ 0 = sym p.code in
    let table : t' ≡ step t c = rw fine at p.table in
    let same : kept ≡ holders_of (step t c) = rw fine at p.same_holders in
    let stays = stays-accepted t c (accepted t (length holders) fine) in
    let asked = asked-now (step t c) d u stays.accepted (omega (arith, l, stays.frame.same_domains)) in
    rw (table, same) (refl, asked.0, asked.1)
