-- A run of calls on a loaded state simulates the machine's, call by call, what is stored at its end is the machine's table, and the
-- holders noted beside it are that table's (specs/Run). Assumes nothing.
use Prim.Native.Nat.{ℕ}
use mathlib.Core.Path.{◌≡◌, refl, sym, ap, ap₂, subst₂, ◌∙◌}
use mathlib.Core.List.{List, [], ◌∷◌, ◌++◌}
use Rattle.machine.specs.Table.{domains, endpoints}
use Rattle.machine.specs.Check.{Accepted}
use Rattle.machine.specs.Call.{Call, first, Call.one, Call.two}
use Rattle.machine.specs.Machine.{Decision, decide, step, answer}
use Rattle.machine.specs.Run as machine
use Rattle.machine.specs.Holders.{holders_of}
use Rattle.machine.proofs.Step.{stays-accepted, run-accepted}
use Rattle.calls.specs.Split.{call_of}
use Rattle.holders.specs.Noted.{holders_after}
use Rattle.working_theory.specs.State.{answer_from, effect_from, rows_after, rings_after}
use Rattle.working_theory.specs.Represents.{Represents}
use Rattle.working_theory.proofs.Simulation.{calls-simulate}
use Rattle.working_load.specs.Run.{Unchanging, Parts, second_of, decided_on, parts_after, run_on, answers_on, holders_on, loaded_once, loaded_parts, EveryRunLoadedOnce}
use Rattle.working_load.proofs.Loaded.{loaded-represents}
use Rattle.working_load.proofs.Stored.{store-is-table}

-- a call is of its first word and its second
call-of : (c : Call) → call_of (first c) (second_of c) ≡ c
unfolding first second_of
call-of (one w) = refl
call-of (two w v) = refl

module _ (u : Unchanging) where
  -- the parts, with what is only read, represent a table
  abbrev PartsRepresent : Parts → List ℕ → Type 0
  PartsRepresent p t = Represents u.n u.m p.rows p.rings u.names u.owned t

  -- one call
  module _ (p : Parts) (c : Call) (t : List ℕ) (a : Accepted t) (s : PartsRepresent p t) where
    same : decided_on u p c ≡ decide t c
    unfolding decided_on
    same =
        (calls-simulate (first c) (second_of c) u.n u.m p.rows p.rings u.names u.hints u.owned t a s).decided
        ∙ ap (decide t) (call-of c)

    answered : answer_from (first c) p.rows p.rings u.owned (decided_on u p c) ≡ answer t c
    answered =
        let x = calls-simulate (first c) (second_of c) u.n u.m p.rows p.rings u.names u.hints u.owned t a s in
        ap (answer_from (first c) p.rows p.rings u.owned) (same ∙ ap (decide t) (sym (call-of c))) ∙ x.answer ∙ ap (answer t) (call-of c)

    represents : PartsRepresent (parts_after u p c) (step t c)
    unfolding parts_after
    represents =
        let x = calls-simulate (first c) (second_of c) u.n u.m p.rows p.rings u.names u.hints u.owned t a s in
        subst₂
        (λ (d : Decision) (end : List ℕ).
        Represents u.n u.m (rows_after p.rows (effect_from p.rows p.rings d)) (rings_after p.rings (effect_from p.rows p.rings d)) u.names u.owned end)
        (ap (decide t) (call-of c) ∙ sym same)
        (ap (step t) (call-of c))
        x.state

    noted : holders_after (holders_of t) (effect_from p.rows p.rings (decided_on u p c)) ≡ holders_of (step t c)
    noted =
        let x = calls-simulate (first c) (second_of c) u.n u.m p.rows p.rings u.names u.hints u.owned t a s in
        ap (λ (d : Decision). holders_after (holders_of t) (effect_from p.rows p.rings d)) (same ∙ ap (decide t) (sym (call-of c)))
        ∙ x.holders
        ∙ ap (λ (d : Call). holders_of (step t d)) (call-of c)

  -- calls, one after the other
  all-answered : (cs : List Call) (p : Parts) (t : List ℕ) → Accepted t → PartsRepresent p t → answers_on u p cs ≡ machine.answers t cs
  unfolding answers_on machine.answers
  all-answered [] p t a s = refl
  all-answered (c ∷ cs) p t a s =
      ap₂ ◌++◌ (answered p c t a s) (all-answered cs (parts_after u p c) (step t c) (stays-accepted t c a).accepted (represents p c t a s))

  all-represent : (cs : List Call) (p : Parts) (t : List ℕ) → Accepted t → PartsRepresent p t → PartsRepresent (run_on u p cs) (machine.run t cs)
  unfolding run_on machine.run
  all-represent [] p t a s = s
  all-represent (c ∷ cs) p t a s = all-represent cs (parts_after u p c) (step t c) (stays-accepted t c a).accepted (represents p c t a s)

  all_noted : (cs : List Call) (p : Parts) (t : List ℕ) → Accepted t → PartsRepresent p t → holders_on u p (holders_of t) cs ≡ holders_of (machine.run t cs)
  unfolding holders_on machine.run
  all_noted [] p t a s = refl
  all_noted (c ∷ cs) p t a s =
      ap (λ (kept : List ℕ). holders_on u (parts_after u p c) kept cs) (noted p c t a s)
      ∙ all_noted cs (parts_after u p c) (step t c) (stays-accepted t c a).accepted (represents p c t a s)

pub every-run-loaded-once : EveryRunLoadedOnce
every-run-loaded-once t hints cs a =
    let u = loaded_once t hints in
    let p = loaded_parts t in
    let kept = run-accepted t cs a in (
      all-answered u cs p t a (loaded-represents t a),
      store-is-table t (machine.run t cs) (domains t) (endpoints t) (run_on u p cs).rows (run_on u p cs).rings u.names u.owned a
          kept.accepted kept.frame (all-represent u cs p t a (loaded-represents t a)),
      all_noted u cs p t a (loaded-represents t a),
    )
