-- The machine of document 01 as an instance of the unwinding theory: its run, sources, purge and answers are those of
-- specs/Unwinding (run, sources, ipurge and outputs), so what is proved there holds of the definitions in specs/Purge.
-- Assumes nothing.
use Prim.Native.Nat.{ℕ, ◌<◌}
use mathlib.Core.Path.{◌≡◌, refl, sym, ap, ap₂, ◌∙◌, subst}
use mathlib.Core.Bool.{Bool, true, false, cond, ◌&&◌, ◌||◌, and-true, and-false, and-or_distrib_left}
use mathlib.Core.List.{List, [], ◌∷◌, ◌++◌, append-nil}
use mathlib.Core.Option.{Option, none, some}
use lib.Dec.{eqb, ltb}
use borrow.Author.Tests.{eqb-true, lt-ltb}
use Rattle.machine.specs.Table.{domains}
use Rattle.machine.specs.Call.{Call, caller_of}
use Rattle.machine.specs.Machine.{step, answer_to, answer}
use Rattle.machine.specs.Run.{run, answers}
use Rattle.machine.specs.Influence.{reaches, influences}
use Rattle.machine.specs.DomainSet.{caller_in, called_by}
use Rattle.machine.specs.Purge.{reaches_any, joined_by, sources, purge, answers_of}
use Rattle.machine.specs.MachineClaims.{caller_influences}
use Rattle.unwinding.specs.Unwinding as unwinding
use Rattle.unwinding.proofs.Unwinding as theory

-- The tables of n domains. A caller that is not below a table's n reaches nobody.
abbrev pub tables : ℕ → unwinding.StateMachine
tables n =
    record {
      State = List ℕ;
      Call = Call;
      Domain = λ v. v < n;
      step = step;
      out = answer;
      caller = caller_of;
      reaches = λ t u v. ltb u (domains t) && reaches t u v;
    }

module _ (n : ℕ) where
  pub run_is : (t : List ℕ) (cs : List Call) → unwinding.run (tables n) t cs ≡ run t cs
  unfolding unwinding.run run
  run_is t [] = refl
  run_is t (c ∷ cs) = run_is (step t c) cs

  -- d's answers, also where further words ws follow them: each call has three
  pub outputs-is :
      (d : ℕ) (t : List ℕ) (cs : List Call) (ws : List ℕ)
      → unwinding.outputs (tables n) d t cs ≡ answers_of d cs (answers t cs ++ ws)
  unfolding unwinding.outputs answers_of answers answer answer_to
  outputs-is d t [] ws = refl
  outputs-is d t (c ∷ cs) ws =
      ap (λ rest. cond (called_by d (caller_of c)) (answer t c ++ rest) rest) (outputs-is d (step t c) cs ws)

  -- for a known v, whom an unknown caller is not
  pub influences-is :
      (t : List ℕ) (q : Option ℕ) (v : ℕ)
      → v < domains t
      → unwinding.interferes (tables n) t q v ≡ caller_influences t q v
  unfolding unwinding.interferes influences
  influences-is t none v k = refl
  influences-is t (some u) v k = go (eqb u v) refl
    where
      go :
          (b : Bool)
          → eqb u v ≡ b
          → (b || (ltb u (domains t) && reaches t u v)) ≡ (ltb u (domains t) && (b || reaches t u v))
      go true e =
          sym (and-true (ltb u (domains t)) ∙ lt-ltb u (domains t) (subst (λ w. w < domains t) (sym (eqb-true u v e)) k))
      go false e = refl

  pub reaches-any :
      (t : List ℕ) (u : ℕ) (vs : List ℕ)
      → unwinding.reaches_member (tables n) t u vs ≡ (ltb u (domains t) && reaches_any t u vs)
  unfolding unwinding.reaches_member reaches_any
  reaches-any t u [] = sym (and-false (ltb u (domains t)))
  reaches-any t u (v ∷ vs) =
      ap (λ b. (ltb u (domains t) && reaches t u v) || b) (reaches-any t u vs)
      ∙ sym (and-or_distrib_left (ltb u (domains t)) (reaches t u v) (reaches_any t u vs))

  pub joined_by_lem : (t : List ℕ) (q : Option ℕ) (vs : List ℕ) → unwinding.with_caller (tables n) t q vs ≡ joined_by t q vs
  unfolding unwinding.with_caller joined_by
  joined_by_lem t none vs = refl
  joined_by_lem t (some u) vs = ap (λ b. cond b (u ∷ vs) vs) (reaches-any t u vs)

  pub sources-is : (t : List ℕ) (cs : List Call) (d : ℕ) → unwinding.sources (tables n) t cs d ≡ sources t cs d
  unfolding unwinding.sources sources
  sources-is t [] d = refl
  sources-is t (c ∷ cs) d =
      ap (unwinding.with_caller (tables n) t (caller_of c)) (sources-is (step t c) cs d)
      ∙ joined_by_lem t (caller_of c) (sources (step t c) cs d)

  pub purge-is : (t : List ℕ) (cs : List Call) (d : ℕ) → unwinding.ipurge (tables n) t cs d ≡ purge t cs d
  unfolding unwinding.ipurge purge
  purge-is t [] d = refl
  purge-is t (c ∷ cs) d =
      ap₂ (λ vs ks. cond (caller_in (caller_of c) vs) (c ∷ ks) ks) (sources-is t (c ∷ cs) d) (purge-is (step t c) cs d)

-- What d sees of cs run from s is what it sees of ks run from t, in the terms of document 01. Of the first this also holds
-- where further words follow its answers.
pub record Observed
    (ok : List ℕ → List ℕ → Type 0)
    (same : ℕ → List ℕ → List ℕ → Type 0)
    (d : ℕ) (s : List ℕ) (cs : List Call) (t : List ℕ) (ks : List Call) : Type 0 where
  pub proper : ok (run s cs) (run t ks)
  pub state : same d (run s cs) (run t ks)
  pub answered : (ws : List ℕ) → answers_of d cs (answers s cs ++ ws) ≡ answers_of d ks (answers t ks)

module _ {n : ℕ} {ok : List ℕ → List ℕ → Type 0} {same : ℕ → List ℕ → List ℕ → Type 0} where
  pub observed :
      {d : ℕ} {s : List ℕ} {cs : List Call} {t : List ℕ} {ks : List Call}
      → unwinding.ObservEquivalent (tables n) ok same d s cs t ks
      → Observed ok same d s cs t ks
  observed {d} {s} {cs} {t} {ks} e =
      let alone = outputs-is n d t ks [] ∙ ap (answers_of d ks) (append-nil (answers t ks)) in
      record {
        proper = rw (← run_is n s cs, ← run_is n t ks) e.proper;
        state = rw (← run_is n s cs, ← run_is n t ks) e.state;
        answered = λ ws. sym (outputs-is n d s cs ws) ∙ e.answers ∙ alone;
      }

  -- noninterference, as Observed, from the unwinding conditions
  pub observes-purge :
      unwinding.Unwinding (tables n) ok same
      → (d : ℕ) (t : List ℕ) (cs : List Call)
      → d < n
      → ok t t
      → Observed ok same d t cs t (purge t cs d)
  observes-purge w d t cs p o = rw (← purge-is n t cs d) (observed (theory.noninterference w d t cs p o))
