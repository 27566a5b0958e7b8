-- The invariant of a run of a list on a working state: the invariant of the kernel's run, and that the state represents its table.
-- Assumes nothing.
use mathlib.Core.Path.{◌≡◌, refl, sym, ap, ap₂, subst₂, ◌∙◌}
use mathlib.Core.List.{List, ◌++◌}
use Prim.Native.Nat.{ℕ, ◌+◌, ◌*◌, ◌<◌, ◌≤◌}
use lib.ListN.{length, get_or, take, drop}
use Rattle.std.specs.Prelude.{Option}
use Rattle.machine.specs.Machine as machine
use Rattle.machine.specs.Machine.{Decision}
use Rattle.machine.specs.SameParts.{SameFrame}
use Rattle.machine.proofs.Frame.{frame-refl, frame-trans}
use Rattle.machine.proofs.Step.{stays-accepted}
use Rattle.calls.specs.Split.{call_of, second_at, width_of}
use Rattle.calls.specs.Decode.{decoded}
use Rattle.holders.specs.Noted.{holders_after}
use Rattle.kernel.specs.Step as kernel
use Rattle.kernel.proofs.RunInvariant.{Underway, underway-start, underway-next, underway-end}
use Rattle.working_theory.specs.State.{named_in, answer_from, effect_from, rows_after, rings_after}
use Rattle.working_theory.specs.Represents.{Represents}
use Rattle.working_theory.proofs.Simulation.{calls-simulate}
use Rattle.working.specs.Outcome.{reads, answered, StateOutcome}
use Rattle.working.specs.Run.{WorkingState, ListOutcome, leaves, RepresentsTable, Left}

-- The run of the list ws on the state s₀, from the table t₀: the outcome o is what the calls so far leave, and the next begins at
-- place i.
pub record OnItsWay (s₀ : WorkingState) (t₀ ws space₀ : List ℕ) (o : ListOutcome) (i : ℕ) : Type 0 where
  pub table : List ℕ
  pub underway : Underway t₀ ws space₀ s₀.holders table o.answers o.holders o.calls i
  pub frame : SameFrame table t₀
  pub state : Represents s₀.n s₀.m o.rows o.rings s₀.names s₀.owned table

module _ (s₀ : WorkingState) (hints ws space₀ : List ℕ) where
  pub way-start : (t : List ℕ) → RepresentsTable s₀ t → OnItsWay s₀ t ws space₀ (leaves 0 s₀.rows s₀.rings space₀ s₀.holders) 0
  way-start t s =
      record {
        table = t;
        underway = underway-start t ws space₀ s₀.holders s.accepted s.same_holders;
        frame = frame-refl t;
        state = s.state;
      }

  module _ (t₀ : List ℕ) (o : ListOutcome) (i : ℕ) (y : OnItsWay s₀ t₀ ws space₀ o i) where
    -- what one more call leaves on the state: its answer, the rows, the rings and the holders
    abbrev Serves : ℕ → Option ℕ → List ℕ → List (List ℕ) → List ℕ → List ℕ → Type 0
    Serves w s words rows' rings' p' =
        StateOutcome (reads s₀.n s₀.m o.rows o.rings (named_in s₀.m s₀.names hints) s₀.owned o.holders) w (decoded w s)
        (answered words rows' rings' p')

    -- one more call on the state is one more on the table
    served : (w : ℕ) (s : Option ℕ) (words : List ℕ) (rows' : List (List ℕ)) (rings' p' : List ℕ)
        → Serves w s words rows' rings' p'
        → kernel.StepOutcome y.table (call_of w s) words (machine.step y.table (call_of w s)) p'
        × Represents s₀.n s₀.m rows' rings' s₀.names s₀.owned (machine.step y.table (call_of w s))
    served w s words rows' rings' p' x =
        let t = y.table in
        let c = call_of w s in
        let rows = o.rows in
        let rings = o.rings in
        let along = calls-simulate w s s₀.n s₀.m rows rings s₀.names hints s₀.owned t y.underway.accepted y.state in
        let is = along.decided in (
          record {
            answer = x.answer ∙ ap (answer_from w rows rings s₀.owned) is ∙ along.answer;
            table = refl;
            holders = x.noted ∙ ap₂ (λ (h : List ℕ) (d : Decision). holders_after h (effect_from rows rings d)) y.underway.holders is ∙ along.holders;
          },
          subst₂ (λ (a : List (List ℕ)) (b : List ℕ). Represents s₀.n s₀.m a b s₀.names s₀.owned (machine.step t c))
              (sym (x.rows_left ∙ ap (λ (d : Decision). rows_after rows (effect_from rows rings d)) is))
              (sym (x.rings_left ∙ ap (λ (d : Decision). rings_after rings (effect_from rows rings d)) is))
              along.state,
        )

    pub way_next : i < length ws
        → (s : Option ℕ) (w : ℕ) (words : List ℕ) (rows' : List (List ℕ)) (rings' space' p' : List ℕ)
        → s ≡ second_at ws i
        → w ≡ width_of s
        → Serves (get_or ws i 0) s words rows' rings' p'
        → length p' ≡ length o.holders
        → space' ≡ take (3 * o.calls) o.answers ++ (words ++ drop (3 * o.calls + 3) o.answers)
        → length space' ≡ length o.answers
        → OnItsWay s₀ t₀ ws space₀ (leaves (o.calls + 1) rows' rings' space' p') (i + w)
    way_next l s w words rows' rings' space' p' is wide x many put long =
        let one = served (get_or ws i 0) s words rows' rings' p' x in
        record {
          table = machine.step y.table (call_of (get_or ws i 0) s);
          underway = underway-next y.underway l s w words _ space' p' is wide one.0 many put long;
          frame = frame-trans (stays-accepted y.table (call_of (get_or ws i 0) s) y.underway.accepted).frame y.frame;
          state = one.1;
        }

    -- no word is left
    pub way_end : length ws ≤ i → Left s₀ t₀ ws space₀ o
    way_end past =
        record {
          end = y.table;
          ran = underway-end y.underway past;
          accepted = y.underway.accepted;
          frame = y.frame;
          state = y.state;
        }
