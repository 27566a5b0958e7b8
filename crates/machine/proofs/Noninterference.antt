-- Noninterference: accepted tables meet the unwinding conditions, so for every domain d the view of a whole run is the view
-- of the machine run on the kept calls alone (specs/MachineClaims: EveryRunNoninterference).
-- Assumes nothing.
use mathlib.Core.Path.{◌≡◌, refl, sym, ap, subst, ◌∙◌}
use mathlib.Core.Bool.{Bool, true, false, ◌&&◌}
use mathlib.Core.List.{List, ◌∷◌, ◌++◌, map}
use mathlib.Core.Option.{some, some-injective}
use Prim.Native.Nat.{ℕ, ◌<◌}
use borrow.Author.Tests.{ltb-true, eqb-true}
use lib.Dec.{eqb, ltb}
use lib.ListN.{get_or, drop}
use Rattle.machine.specs.Word.{payload, caller}
use Rattle.machine.specs.Right.{has_any}
use Rattle.machine.specs.Table.{domains, endpoints, rights, endpoint}
use Rattle.machine.specs.Check.{Accepted}
use Rattle.machine.specs.Call.{Call, first, caller_of}
use Rattle.machine.specs.Machine.{step}
use Rattle.machine.specs.Run.{answers}
use Rattle.machine.specs.Influence.{reaches}
use Rattle.machine.specs.Purge.{purge, answers_of, owned_by, queues_of, lost_of, view}
use Rattle.machine.specs.SameParts.{SameFrame, SamePart, Agree}
use Rattle.machine.specs.MachineClaims.{EveryRunNoninterference}
use Rattle.unwinding.specs.Unwinding as unwinding
use Rattle.machine.proofs.Bools.{and_left}
use Rattle.machine.proofs.Below.{map_same}
use Rattle.machine.proofs.Frame.{frame-refl, frame-sym, frame-trans}
use Rattle.machine.proofs.Consistency.{owner-same, owned-same, answer-depends}
use Rattle.machine.proofs.Step.{stays-accepted, local-respect, step-consistent}
use Rattle.machine.proofs.Purge.{tables, influences-is, observes-purge}

-- Two accepted tables of n domains with the same unchanging parts.
pub record Alike (n : ℕ) (s t : List ℕ) : Type 0 where
  pub first : Accepted s
  pub second : Accepted t
  pub frame : SameFrame s t
  pub count : domains t ≡ n

alike-sym : {n : ℕ} {s t : List ℕ} → Alike n s t → Alike n t s
alike-sym o =
    record { first = o.second; second = o.first; frame = frame-sym o.frame; count = o.frame.same_domains ∙ o.count }

alike-trans : {n : ℕ} {s t r : List ℕ} → Alike n s t → Alike n t r → Alike n s r
alike-trans o p =
    record { first = o.first; second = p.second; frame = frame-trans o.frame p.frame; count = p.count }

alike-step : {n : ℕ} {t : List ℕ} (c : Call) → Alike n t t → Alike n t (step t c)
alike-step {n} {t} c o =
    let kept = stays-accepted t c o.first in
    record { first = o.first; second = kept.accepted; frame = frame-sym kept.frame; count = kept.frame.same_domains ∙ o.count }

agree_refl : {v : ℕ} {t : List ℕ} → Agree v t t
agree_refl = record { part = record { rights = refl; queues = λ e l o. refl }; on_it = λ u l. refl }

agree-sym : {n v : ℕ} {s t : List ℕ} → Alike n s t → Agree v s t → Agree v t s
agree-sym {n} {v} {s} {t} o a =
    let f = o.frame in
    record {
      part =
          record {
            rights = sym a.part.rights;
            queues =
                λ e l w.
                let l' : e < endpoints t = subst (λ (m : ℕ). e < m) f.same_endpoints l in
                sym (a.part.queues e l' (sym (owner-same s t f e l') ∙ w));
          };
      on_it = λ u l. sym (a.on_it u (subst (λ (k : ℕ). u < k) f.same_domains l));
    }

agree_trans : {n v : ℕ} {s t r : List ℕ} → Alike n s t → Alike n t r → Agree v s t → Agree v t r → Agree v s r
agree_trans {n} {v} {s} {t} {r} o p a b =
    let f = p.frame in
    record {
      part =
          record {
            rights = a.part.rights ∙ b.part.rights;
            queues =
                λ e l w.
                a.part.queues e (subst (λ (m : ℕ). e < m) (sym f.same_endpoints) l) (owner-same t r f e l ∙ w)
                ∙ b.part.queues e l w;
          };
      on_it = λ u l. a.on_it u (subst (λ (k : ℕ). u < k) (sym f.same_domains) l) ∙ b.on_it u l;
    }

-- two tables that agree on v agree on who reaches it
policy-respect : {n v : ℕ} {s t : List ℕ} (u : ℕ) → Alike n s t → Agree v s t → (ltb u (domains s) && reaches s u v) ≡ (ltb u (domains t) && reaches t u v)
unfolding reaches rights
policy-respect {n} {v} {s} {t} u o a =
    ap (λ (k : ℕ). ltb u k && reaches s u v) o.frame.same_domains ∙ go (ltb u (domains t)) refl
  where
    go : (b : Bool) → ltb u (domains t) ≡ b → (b && reaches s u v) ≡ (b && reaches t u v)
    go true e = ap (λ (w : ℕ). has_any (payload w)) (a.on_it u (ltb-true _ _ e))
    go false e = refl

-- the caller of the call is the one that is known
same-caller : {u : ℕ} {s t : List ℕ} (c : Call) → caller_of c ≡ some u → Agree u s t → caller_of c ≡ some (caller (first c)) → SamePart (caller (first c)) s t
same-caller {u} {s} {t} c e a k =
    subst (λ (w : ℕ). SamePart w s t) (some-injective _ _ (sym e ∙ k)) a.part

-- Accepted tables of n domains meet the unwinding conditions.
pub conditions : (n : ℕ) → unwinding.Unwinding (tables n) (Alike n) Agree
conditions n =
    record {
      ok_sym = alike-sym;
      ok_trans = alike-trans;
      ok_step = alike-step;
      same_refl = λ _. agree_refl;
      same_sym = agree-sym;
      same_trans = agree_trans;
      reaches_domain = λ {s} {u} {v} o h. subst (λ (k : ℕ). u < k) o.count (ltb-true _ _ (and_left (ltb u (domains s)) (reaches s u v) h));
      policy_respect = λ u o _ a. policy-respect u o a;
      local_respect =
          λ {s} {v} c o l h.
          let here : v < domains s = subst (λ (k : ℕ). v < k) (sym o.count) l in
          agree-sym (alike-sym (alike-step c o)) (local-respect s c o.first v here (sym (influences-is n s (caller_of c) v here) ∙ h));
      weakly_step_consistent =
          λ {s} {t} {u} {v} c o lu lv e _ a b.
          step-consistent s t c o.first o.second o.frame (λ k. same-caller c e a k.called_by) v
          (subst (λ (k : ℕ). v < k) (sym o.count) lv)
          b;
      output_consistent =
          λ {s} {t} {u} c o lu e a.
          answer-depends s t c o.second o.frame (λ w k _. subst (λ (x : ℕ). SamePart x s t) (some-injective _ _ (sym e ∙ k)) a.part);
    }

-- what is made of the endpoints that d owns, in two tables that agree on d
owned-parts : {A : Type 0} {n d : ℕ} {s t : List ℕ} → Alike n s t → Agree d s t → (part : ℕ → List ℕ → A) → map (λ e. part e (endpoint s e)) (owned_by d s) ≡ map (λ e. part e (endpoint t e)) (owned_by d t)
unfolding owned_by
owned-parts {A} {n} {d} {s} {t} o a part =
    rw o.frame.same_endpoints
    (map_same (endpoints t) _ _ _ _
    (λ e l. ap (λ (x : ℕ). eqb x d) (owner-same s t o.frame e l))
    (λ e l h. ap (part e) (owned-same s t o.frame d a.part e l (eqb-true _ _ h))))

-- what d sees of the tables
pub same_view : {n d : ℕ} {s t : List ℕ} → Alike n s t → Agree d s t → (cs ks : List Call) (ws vs : List ℕ) → answers_of d cs ws ≡ answers_of d ks vs → view d cs ws s ≡ view d ks vs t
unfolding view queues_of lost_of
same_view o a cs ks ws vs e =
    λ i.
    record {
      answers = e i;
      rights = a.part.rights i;
      queues = owned-parts o a (λ x q. (x, get_or q 2 0 ∷ drop 4 q)) i;
      lost = owned-parts o a (λ x q. (x, get_or q 3 0)) i;
    }

-- Noninterference (specs/RunClaims).
pub noninterference : EveryRunNoninterference
noninterference t cs rest a d l =
    let self : Alike (domains t) t t = record { first = a; second = a; frame = frame-refl t; count = refl } in
    let seen = observes-purge (conditions (domains t)) d t cs l self in
    same_view seen.proper seen.state cs (purge t cs d) (answers t cs ++ rest) (answers t (purge t cs d)) (seen.answered rest)
