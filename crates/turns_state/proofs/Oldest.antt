-- The oldest call of the domain that is next: it is what a turn serves, and its words can be removed (specs/State).
-- Assumes nothing.
use mathlib.Core.Path.{◌≡◌, sym, ap, ap₂, subst, ◌∙◌}
use mathlib.Core.Bool.{true, not, false≢true}
use mathlib.Core.List.{List, [], ◌∷◌}
use mathlib.Core.Option.{some, none-ne-some, some-injective}
use mathlib.Core.Logic.{⊎_elim}
use Prim.Native.Nat.{ℕ, zero, suc, ◌<◌, ◌≤◌}
use native.Mathlib.Omega.{arith}
use borrow.Author.Tests.{eq-eqb, le-leb}
use lib.Dec.{eqb}
use lib.ListN.{length, get_or, drop}
use lib.Seq.{get_or-take, get_or-drop}
use Rattle.machine.specs.Table.{domains}
use Rattle.machine.specs.Call.{Call, split}
use Rattle.machine.proofs.Bools.{and_intro}
use Rattle.std.specs.Prelude.{Option}
use Rattle.calls.specs.Split.{call_of, second_at, width_of}
use Rattle.turns_theory.specs.Turns.{waits, first_waiting, serves_oldest, Turn.serves}
use Rattle.turns_theory.proofs.Pending.{split-oldest, oldest-width, turn-of}
use Rattle.turns_state.specs.Pending.{block_length, count, pending_in, dequeuable, second_of_oldest}
use Rattle.turns_state.proofs.Laws.{pending-length}
use Rattle.turns_state.specs.State.{state_length, block, turns_in, turn_in, state_served, state_after, first_of_oldest, removed_from}
use Rattle.turns_state.proofs.Blocks.{block-length, removed-there}
use Rattle.turns_state.proofs.Words.{width-of, second-oldest}
use Rattle.turns_state.proofs.Next.{waiting-found, Found}

-- the oldest call of words that are there, by their first and their second word
oldest-served : (d : ℕ) (ps : List ℕ) → not (eqb (length ps) 0) ≡ true → serves_oldest d (split ps) ≡ serves d (call_of (get_or ps 0 0) (second_at ps 0))
unfolding serves_oldest
oldest-served d [] h = absurd (false≢true h)
oldest-served d (w ∷ ps) h = rw (split-oldest w ps) (ap (serves d) (sym (second-oldest w ps)))

oldest-fits : (ps : List ℕ) → not (eqb (length ps) 0) ≡ true → width_of (second_at ps 0) ≤ length ps
oldest-fits [] h = absurd (false≢true h)
oldest-fits (w ∷ ps) h = rw (width-of w (second_at (w ∷ ps) 0), second-oldest w ps) (oldest-width w ps)

-- the oldest call of a domain, as it is read
abbrev pub oldest-call : List ℕ → ℕ → Call
oldest-call ws d = call_of (first_of_oldest (block ws d)) (second_of_oldest (block ws d))

module _ (t ws : List ℕ) (d : ℕ) (size : length ws ≡ state_length (domains t)) (next : first_waiting (domains t) (turns_in ws) ≡ some d) where
  -- the domain that is next has a call
  pub found : Found (domains t) (turns_in ws) d
  found =
      ⊎_elim (λ f. let (e, is, it) = f in subst (Found (domains t) (turns_in ws)) (some-injective _ _ (sym is ∙ next)) it) (λ is. absurd (none-ne-some _ (sym is ∙ next)))
      (waiting-found (domains t) (turns_in ws))

  whole : length (block ws d) ≡ block_length
  whole = block-length ws (domains t) d size found.below

  second : second_of_oldest (block ws d) ≡ second_at (pending_in (block ws d)) 0
  unfolding second_of_oldest
  second = rw (eq-eqb (length (block ws d)) block_length whole)

  there : not (eqb (length (pending_in (block ws d))) 0) ≡ true
  unfolding waits turns_in
  there = found.waits

  some-there : 0 < count (block ws d)
  some-there = go (count (block ws d)) (ap (λ (k : ℕ). not (eqb k 0)) (sym (pending-length (block ws d) whole)) ∙ there)
    where
      go : (k : ℕ) → not (eqb k 0) ≡ true → 0 < k
      go zero h = absurd (false≢true h)
      go (suc k) h = omega arith

  first : first_of_oldest (block ws d) ≡ get_or (pending_in (block ws d)) 0 0
  unfolding first_of_oldest pending_in
  first =
      rw (eq-eqb (length (block ws d)) block_length whole)
      (sym (get_or-take (count (block ws d)) (drop 1 (block ws d)) 0 0 some-there ∙ get_or-drop 1 (block ws d) 0 0))

  -- it is what the turn serves
  pub oldest-turn : turn_in t ws ≡ serves d (oldest-call ws d)
  unfolding turn_in turns_in
  oldest-turn =
      turn-of (domains t) (turns_in ws) d next
      ∙ oldest-served d (pending_in (block ws d)) there
      ∙ ap₂ (λ (w : ℕ) (s : Option ℕ). serves d (call_of w s)) (sym first) (sym second)

  -- its words can be removed
  fits : dequeuable (block ws d) (width_of (second_of_oldest (block ws d))) ≡ true
  unfolding dequeuable
  fits =
      and_intro (eq-eqb (length (block ws d)) block_length whole)
      (le-leb (width_of (second_of_oldest (block ws d))) (count (block ws d))
      (rw second (omega (arith, oldest-fits (pending_in (block ws d)) there, pending-length (block ws d) whole))))

  -- and what is left then is what the turn leaves
  pub oldest-left : removed_from ws d (width_of (second_of_oldest (block ws d))) ≡ state_after ws (serves d (oldest-call ws d))
  unfolding state_after
  oldest-left =
      removed-there ws d (width_of (second_of_oldest (block ws d))) fits
      ∙ ap (state_served ws d) (width-of (first_of_oldest (block ws d)) (second_of_oldest (block ws d)))
