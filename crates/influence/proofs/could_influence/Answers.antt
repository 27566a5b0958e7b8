-- `could_influence` meets its contract: a table is refused, or the index is no domain's; else there are enough words for the
-- potential rights. Assumes nothing.
use Prim.Native.Nat.{ℕ, ◌*◌, ◌-◌, ◌≤◌}
use mathlib.Core.Path.{◌≡◌, sym, ◌∙◌}
use mathlib.Core.List.{List}
use native.Mathlib.Nat.{mul-le-mul}
use native.Mathlib.Omega.{arith}
use lib.ListN.{length, take}
use lib.Seq.{length-take-le}
use Rattle.machine.specs.Check.{Accepted}
use Rattle.machine.specs.Table.{domains}
use Rattle.machine.proofs.Accepted.{accepted-counts}
use Rattle.std.proofs.lemmas.Result.{err_from_is_err_and}
use Rattle.table_check.proofs.Refusals.{refusal-code}
use Rattle.influence.proofs.Reported.{reported-refused, reported-none}
use Rattle.influence.proofs.could_influence.Goals as goal

-- an accepted table has at most 256 cells
cells_fit : (t : List ℕ) (n : ℕ) → Accepted t → n ≡ domains t → n * n ≤ 256
cells_fit t n accepted is =
    let few : n ≤ 16 = omega (arith, is, (accepted-counts _ accepted).1) in
    mul-le-mul few few

pub returns-in_err-check : goal.returns-in_err-check
returns-in_err-check c =
    let p = err_from_is_err_and c.from_residual.result c.from_residual.ensures.1 in
    rw (p.1, p.2) (reported-refused _ _ _ _ c.in_err-check.ensures (refusal-code c.in_err-check.field-0.0))

pub returns-then-n-domain : goal.returns-then-n-domain
returns-then-n-domain c =
    reported-none _ _ _ (sym c.in_ok-check.ensures) (omega (arith, c.domains-n.ensures, c.if-n-domain.true))

pub overflow_mul-count : goal.overflow_mul-count
overflow_mul-count c = omega (arith, cells_fit _ _ (sym c.in_ok-check.ensures) c.domains-n.ensures)

pub slice_bounds-rights-end : goal.slice_bounds-rights-end
slice_bounds-rights-end c = omega (arith, cells_fit _ _ (sym c.in_ok-check.ensures) c.domains-n.ensures)

-- the lent part has this count of words
lent : (rights : List ℕ) (count : ℕ) → count ≤ length rights → length (take (count - 0) rights) ≡ count
lent rights count l = length-take-le (count - 0) rights (omega arith) ∙ omega arith

pub influence_by-requires : goal.influence_by-requires
influence_by-requires c =
    record {
      accepted = sym c.in_ok-check.ensures;
      domains = c.domains-n.ensures;
      is_domain = c.if-n-domain.false;
      size = lent _ _ (omega (arith, cells_fit _ _ (sym c.in_ok-check.ensures) c.domains-n.ensures));
    }
