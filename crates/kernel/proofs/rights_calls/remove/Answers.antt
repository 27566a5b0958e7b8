-- `rights_calls::remove` meets its contract: refused by a range test, refused by what was read, or done. Assumes nothing.
use mathlib.Core.Path.{refl, sym, ap, ◌∙◌}
use Prim.Native.Nat.{ℕ}
use Rattle.std.specs.Prelude.{Err}
use Rattle.machine.specs.Right.{without}
use Rattle.rules.specs.Range.{call_numbers}
use Rattle.rules.specs.Access.{remove_access}
use Rattle.rules.proofs.Places.{decided}
use Rattle.rules.proofs.Passed.{passed}
use Rattle.kernel.proofs.Decided.{remove-decided}
use Rattle.kernel.proofs.Ranges.{in_remove, less-fits}
use Rattle.kernel.proofs.Outcomes.{settled-stopped, removed}
use Rattle.kernel.proofs.rights_calls.remove.Goals as goal

pub returns-in_err-of_remove : goal.returns-in_err-of_remove
unfolding call_numbers
returns-in_err-of_remove c =
    settled-stopped _ _ _ _ _ c.from_residual.ensures.1 (decided _ _ _ _ (Err _) c.requires.same_domains refl c.in_err-of_remove.ensures)

pub held-mine-requires : goal.held-mine-requires
held-mine-requires c =
    let within = in_remove _ _ _ _ c.in_ok-of_remove.ensures in
    record { accepted = c.requires.accepted; same_domains = c.requires.same_domains; known_holder = within.0; known_target = within.1 }

pub returns-in_err-remove : goal.returns-in_err-remove
returns-in_err-remove c =
    settled-stopped _ _ _ _ _ c.from_residual-in_err-remove.ensures.1
    (c.in_err-remove.ensures ∙ remove-decided _ _ c.requires.same_domains _ _ _ _ c.in_ok-of_remove.ensures c.held-mine.ensures)

pub alter-requires : goal.alter-requires
alter-requires c =
    let within = in_remove _ _ _ _ c.in_ok-of_remove.ensures in
    let new = c.without-left.ensures ∙ ap (λ (k : ℕ). without k c.args.given) c.held-mine.ensures in
    record {
      accepted = c.requires.accepted;
      same_domains = c.requires.same_domains;
      known_holder = within.0;
      known_target = within.1;
      fits = less-fits _ c.requires.accepted _ c.requires.same_domains _ _ _ _ within.0 within.1 new;
    }

pub returns : goal.returns
unfolding remove_access
returns c =
    let made = c.in_ok-remove.ensures in
    removed _ _ _ _ _ _ _ _ c.alter.ensures.table_after c.alter.ensures.holders_after _
    (sym (passed _ _ 22 _ made) ∙ made ∙ remove-decided _ _ c.requires.same_domains _ _ _ _ c.in_ok-of_remove.ensures c.held-mine.ensures)
    (c.without-left.ensures ∙ ap (λ (k : ℕ). without k c.args.given) c.held-mine.ensures)
