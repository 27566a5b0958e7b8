-- `replace` meets its contract: the words passed are the new ones, and the pairs of those that differ are in the list.
-- Assumes nothing.
use Prim.Native.Nat.{ℕ, ◌<◌, ◌≤◌}
use mathlib.Core.Path.{◌∙◌}
use mathlib.Core.List.{List}
use native.Mathlib.Omega.{arith}
use lib.ListN.{length, length-set}
use lib.Seq.{set-get_or}
use Rattle.repair.proofs.Passes.{Replacing, replacing-start, replacing-few, pair_fits, replacing-differs, replacing-same, replacing-end}
use Rattle.repair.proofs.replace.Goals as goal
use Rattle.repair.proofs.replace.Goals.{then-old-new, else-old-new}

-- the place of a pair is at most 1280
few : {t new list₀ table list : List ℕ} {at i : ℕ} → Replacing t new list₀ table list at i → i < length t → length t ≤ 641 → at ≤ 1280
few r l small = omega (arith, replacing-few r)

pub loop-i-init : goal.loop-i-init
loop-i-init c = replacing-start _ _ _

pub offset_bounds-list-at : goal.offset_bounds-list-at
offset_bounds-list-at c = omega (arith, few c.loop-i.invariant c.loop-i-test.true c.requires.few)

pub bounds-list-at : goal.bounds-list-at
bounds-list-at c =
    omega (
      arith,
      pair_fits c.loop-i.invariant c.requires.same_size c.loop-i-test.true c.if-old-new.true c.requires.room,
    )

pub offset_bounds-list-at-then-old-new : goal.offset_bounds-list-at-then-old-new
offset_bounds-list-at-then-old-new c = omega (arith, few c.loop-i.invariant c.loop-i-test.true c.requires.few)

pub bounds-list-at-then-old-new : goal.bounds-list-at-then-old-new
bounds-list-at-then-old-new c =
    let room =
    pair_fits c.loop-i.invariant c.requires.same_size c.loop-i-test.true c.if-old-new.true c.requires.room in
    simp length-set (omega (arith, room))

pub overflow_add-at : goal.overflow_add-at
overflow_add-at c = omega (arith, few c.loop-i.invariant c.loop-i-test.true c.requires.few)

pub loop-i-preserved : goal.loop-i-preserved
loop-i-preserved c =
    let place = c.loop-i-test.true in
    elim c.if-old-new.branch [
      | then-old-new w ↦ replacing-differs c.loop-i.invariant c.requires.same_size place w.if-old-new.true c.requires.room _ _ _ w.table-is w.list-is w.at-is
      | else-old-new w ↦ replacing-same c.loop-i.invariant c.requires.same_size place w.if-old-new.false _ _ _ (w.table-is ∙ set-get_or _ _ _) w.list-is w.at-is
    ]

pub returns : goal.returns
returns c =
    let ends =
    replacing-end c.loop-i.invariant c.requires.same_size (omega (arith, c.loop-i-test.false, c.loop-i.invariant.copied.size)) in
    record { table_after = ends.0; list_after = ends.1 }
