-- What one event by its words leaves: whom a turn serves, and that what is refused or idle changes nothing (specs/Claims). Assumes
-- nothing.
use mathlib.Core.Path.{◌≡◌, refl, sym, ap, subst, ◌∙◌}
use mathlib.Core.Bool.{Bool, true, false, cond, false≢true}
use Prim.Native.Nat.{ℕ}
use native.Mathlib.Omega.{arith}
use borrow.Author.Tests.{eqb-true, eqb-false}
use lib.Dec.{eqb}
use lib.ListN.{length}
use Rattle.machine.specs.Table.{domains}
use Rattle.machine.specs.Holders.{holders_of}
use Rattle.turns_theory.specs.Turns.{Turns, Turn, table_after, holders_after_turn, after_turn, Turn.idle, Turn.serves}
use Rattle.turns_theory.proofs.Order.{serves-first}
use Rattle.turns_state.specs.State.{state_length, beginning, turns_in, turn_in, state_handed_in, state_after}
use Rattle.turns.specs.Codes.{bad_turns}
use Rattle.turns.specs.Promise.{TurnWords, TurnOutcome, code_of, served_by, space_after, turn_made, turn_outcome, outcome}
use Rattle.turns.specs.Claims.{ServedNext, EveryServedNext, RefusedBeginChangesNothing, RefusedHandInChangesNothing, UnservedTurnChangesNothing}
use Rattle.turns.proofs.Codes.{then_some, turn-unfit}
use Rattle.turns.proofs.Claims.{every-turn}

pub refused-begin-changes-nothing : RefusedBeginChangesNothing
refused-begin-changes-nothing t ws holders code ws' kept p h =
    (p.state ∙ ap (λ (b : Bool). cond b (beginning (domains t)) ws) h, p.same_holders ∙ ap (λ (b : Bool). cond b (holders_of t) holders) h)

pub refused-hand-in-changes-nothing : RefusedHandInChangesNothing
refused-hand-in-changes-nothing t ws d vs code ws' p h =
    p.state ∙ ap (λ (b : Bool). cond b (state_handed_in ws d vs) ws) (ap (λ (k : ℕ). eqb k 0) (sym p.same_code) ∙ h)

-- ---- a turn

-- a turn that serves nothing changes nothing
idle-made : (w : TurnWords) (x : Turn) → served_by x ≡ 0 → (turn_made w x).left ≡ w
unfolding turn_made served_by table_after state_after holders_after_turn space_after
idle-made w idle h = refl
idle-made w (serves d c) h = absurd (omega (arith, h))

pub unserved-turn-changes-nothing : UnservedTurnChangesNothing
unfolding turn_outcome turn_made
unserved-turn-changes-nothing w o p = (refused, unserved)
  where
    refused : eqb o.code 0 ≡ false → o.served ≡ 0
    refused h = ap (λ (x : TurnOutcome). x.served) p ∙ go (eqb (code_of w) 0) (sym (ap (λ (x : TurnOutcome). eqb x.code 0) p) ∙ h)
      where
        go : (b : Bool) → eqb (cond b (turn_made w (turn_in w.table w.state)) (outcome (code_of w) 0 w)).code 0 ≡ false
            → (cond b (turn_made w (turn_in w.table w.state)) (outcome (code_of w) 0 w)).served ≡ 0
        go true h = absurd (false≢true (sym h))
        go false h = refl

    unserved : o.served ≡ 0 → o.left ≡ w
    unserved h = ap (λ (x : TurnOutcome). x.left) p ∙ go (eqb (code_of w) 0) (sym (ap (λ (x : TurnOutcome). x.served) p) ∙ h)
      where
        go : (b : Bool) → (cond b (turn_made w (turn_in w.table w.state)) (outcome (code_of w) 0 w)).served ≡ 0
            → (cond b (turn_made w (turn_in w.table w.state)) (outcome (code_of w) 0 w)).left ≡ w
        go true h = idle-made w (turn_in w.table w.state) h
        go false h = refl

-- a turn that isn't refused has a state of the right length
right-length : (w : TurnWords) → code_of w ≡ 0 → length w.state ≡ state_length (domains w.table)
right-length w h = go (eqb (length w.state) (state_length (domains w.table))) refl
  where
    go : (b : Bool) → eqb (length w.state) (state_length (domains w.table)) ≡ b → length w.state ≡ state_length (domains w.table)
    go true is = eqb-true _ _ is
    go false is =
        absurd (then_some _ bad_turns (λ e. omega (arith, e)) (sym (turn-unfit w.table w.state _ _ (eqb-false _ _ is)) ∙ h))

served-made : (w : TurnWords) → code_of w ≡ 0 → (x : Turn) → turn_in w.table w.state ≡ x → served_by x ≡ 1 → ServedNext w (turn_made w x)
unfolding served_by turn_made turn_in turns_in after_turn
served-made w code idle is h = absurd (omega (arith, h))
served-made w code (serves d c) is h =
    let left = subst (λ (x : Turn). turns_in (state_after w.state x) ≡ after_turn (turns_in w.state) x) is (every-turn w.table w.state 0 0 (right-length w code)).left in
    record {
      domain = d;
      call = c;
      first = (serves-first (domains w.table) (turns_in w.state) d c).0 is;
      left = left;
      place = ap (λ (s : Turns). s.place) left;
    }

pub every-served-next : EveryServedNext
unfolding turn_outcome turn_made
every-served-next w o p h = subst (ServedNext w) (sym p) (go (eqb (code_of w) 0) refl (sym (ap (λ (x : TurnOutcome). x.served) p) ∙ h))
  where
    go : (b : Bool) → eqb (code_of w) 0 ≡ b → (cond b (turn_made w (turn_in w.table w.state)) (outcome (code_of w) 0 w)).served ≡ 1
        → ServedNext w (cond b (turn_made w (turn_in w.table w.state)) (outcome (code_of w) 0 w))
    go true is h = served-made w (eqb-true _ _ is) (turn_in w.table w.state) refl h
    go false is h = absurd (omega (arith, h))
