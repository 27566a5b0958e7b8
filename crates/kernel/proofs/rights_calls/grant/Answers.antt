-- `rights_calls::grant` meets its contract: refused by a range test, refused by what was read, or done. Assumes nothing.
use mathlib.Core.Path.{refl, sym, ap, ◌∙◌}
use Prim.Native.Nat.{ℕ}
use Rattle.std.specs.Prelude.{Err}
use Rattle.machine.specs.Right.{adds}
use Rattle.rules.specs.Range.{call_numbers}
use Rattle.rules.specs.Access.{grant_access}
use Rattle.rules.proofs.Places.{decided}
use Rattle.rules.proofs.Passed.{passed}
use Rattle.kernel.proofs.Decided.{grant-decided}
use Rattle.kernel.proofs.Ranges.{in-grant, more-fits}
use Rattle.kernel.proofs.Outcomes.{settled-stopped, granted}
use Rattle.kernel.proofs.rights_calls.grant.Goals as goal

pub returns-in_err-of_grant : goal.returns-in_err-of_grant
unfolding call_numbers
returns-in_err-of_grant c =
    settled-stopped _ _ _ _ _ c.from_residual.ensures.1 (decided _ _ _ _ (Err _) c.requires.same_domains refl c.in_err-of_grant.ensures)

pub held-mine-requires : goal.held-mine-requires
held-mine-requires c =
    let within = in-grant _ _ _ _ _ c.in_ok-of_grant.ensures in
    record { accepted = c.requires.accepted; same_domains = c.requires.same_domains; known_holder = within.caller; known_target = within.target }

pub held-toward-requires : goal.held-toward-requires
held-toward-requires c =
    let within = in-grant _ _ _ _ _ c.in_ok-of_grant.ensures in
    record { accepted = c.requires.accepted; same_domains = c.requires.same_domains; known_holder = within.caller; known_target = within.other }

pub returns-in_err-grant : goal.returns-in_err-grant
returns-in_err-grant c =
    settled-stopped _ _ _ _ _ c.from_residual-in_err-grant.ensures.1
    (c.in_err-grant.ensures ∙ grant-decided _ _ c.requires.same_domains _ _ _ _ c.in_ok-of_grant.ensures _ _ c.held-mine.ensures c.held-toward.ensures)

pub held-had-requires : goal.held-had-requires
held-had-requires c =
    let within = in-grant _ _ _ _ _ c.in_ok-of_grant.ensures in
    record { accepted = c.requires.accepted; same_domains = c.requires.same_domains; known_holder = within.other; known_target = within.target }

pub alter-requires : goal.alter-requires
alter-requires c =
    let within = in-grant _ _ _ _ _ c.in_ok-of_grant.ensures in
    let new = c.adds-more.ensures ∙ ap (λ (k : ℕ). adds k c.args.given) c.held-had.ensures in
    record {
      accepted = c.requires.accepted;
      same_domains = c.requires.same_domains;
      known_holder = within.other;
      known_target = within.target;
      fits = more-fits _ c.requires.accepted _ c.requires.same_domains _ _ _ _ within.other within.target within.few new;
    }

pub returns : goal.returns
unfolding grant_access
returns c =
    let made = c.in_ok-grant.ensures in
    granted _ _ _ _ _ _ _ _ c.alter.ensures.table_after c.alter.ensures.holders_after _
    (sym (passed _ _ 23 _ (passed _ _ 22 _ made)) ∙ made ∙ grant-decided _ _ c.requires.same_domains _ _ _ _ c.in_ok-of_grant.ensures _ _ c.held-mine.ensures c.held-toward.ensures)
    (c.adds-more.ensures ∙ ap (λ (k : ℕ). adds k c.args.given) c.held-had.ensures)
