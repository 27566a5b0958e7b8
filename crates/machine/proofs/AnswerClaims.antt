-- The answer of a call that isn't refused (specs/AnswerClaims). Assumes nothing.
use mathlib.Core.Path.{◌≡◌, refl, sym, ap, subst, ◌∙◌}
use mathlib.Core.Bool.{Bool, true, false, cond, not, true≢false, false≢true}
use mathlib.Core.Logic.{⊎_elim}
use mathlib.Core.List.{List}
use mathlib.Core.Option.{Option, none, some}
use Prim.Native.Nat.{ℕ, zero, suc, ◌<◌, ◌≤◌}
use native.Mathlib.Nat.{not-suc-le-zero}
use native.Mathlib.Omega.{arith}
use borrow.Author.Tests.{eqb-true, eq-eqb, not-true}
use lib.Dec.{eqb}
use Rattle.machine.specs.Below.{first_below}
use Rattle.machine.specs.Table.{endpoints, endpoint}
use Rattle.machine.specs.Queue.{name}
use Rattle.machine.specs.Check.{name_new, Accepted}
use Rattle.machine.specs.Call.{Call, Kind, call_kind, second_payload}
use Rattle.machine.specs.Call.{Kind.look_up}
use Rattle.machine.specs.Machine.{Decision, named, row_of, decide, code, data_words, answer_to, answer}
use Rattle.machine.specs.Machine.{Decision.refused, Decision.looked_up}
use Rattle.machine.specs.Guards.{framed, look_up_places, places}
use Rattle.machine.specs.AnswerClaims as claims
use Rattle.machine.proofs.Below.{below-or-last, all-at}
use Rattle.machine.proofs.Table.{apart, equal-either}
use Rattle.machine.proofs.Accepted.{accepted-name}
use Rattle.machine.proofs.Exactly.{refuses, refused-exactly}
use Rattle.machine.proofs.Places.{decide-places}
use Rattle.machine.proofs.Decide.{place-elim}

pub unrefused-answer : claims.EveryUnrefusedAnswer
unfolding answer answer_to code data_words row_of
unrefused-answer t c f =
    record {
      send = λ is. by is;
      grant = λ is. by is;
      remove = λ is. by is;
      revoke = λ is. by is;
      receive = λ is. by is;
      my_endpoints = λ is. by is;
      my_rights = λ is. by is;
    }
  where
    by : {k : Kind} → call_kind c ≡ k → answer t c ≡ answer_to t c (row_of t c k)
    by is = ap (answer_to t c) ((refused-exactly t c).row ((refused-exactly t c).passed f) ∙ ap (row_of t c) is)

-- ---- the first number below k of which p holds

-- what a search found: a number of which p holds, or none does
abbrev Found : ℕ → (ℕ → Bool) → Option ℕ → Type 0
Found k p none = (i : ℕ) → i < k → p i ≡ false
Found k p (some i) = (i < k) × (p i ≡ true)

found-next : (k : ℕ) (p : ℕ → Bool) (o : Option ℕ) (b : Bool) → p k ≡ b → Found k p o → Found (suc k) p (elim o [ none ↦ cond b (some k) none | some i ↦ some i ])
found-next k p none true e h = (omega arith, e)
found-next k p none false e h = λ i l. ⊎_elim (λ b. h i b) (λ x. ap p x ∙ e) (below-or-last k i l)
found-next k p (some j) b e h = (omega (arith, h.0), h.1)

found_first : (k : ℕ) (p : ℕ → Bool) → Found k p (first_below k p)
unfolding first_below
found_first zero p = λ i l. absurd (not-suc-le-zero l)
found_first (suc k) p = found-next k p (first_below k p) (p k) refl (found_first k p)

-- ---- a look up

-- no two endpoints of an accepted table have one name
name-once : (t : List ℕ) → Accepted t → (e f : ℕ) → e < endpoints t → f < endpoints t → name (endpoint t e) ≡ name (endpoint t f) → e ≡ f
unfolding name_new
name-once t a e f le lf same =
    ⊎_elim (λ x. x)
    (λ n.
    ⊎_elim
    (λ b. absurd (differ e f (all-at f _ (accepted-name t a f lf) e b) same))
    (λ b. absurd (differ f e (all-at e _ (accepted-name t a e le) f b) (sym same)))
    (apart e f n))
    (equal-either e f)
  where
    differ : (i j : ℕ) → not (eqb (name (endpoint t i)) (name (endpoint t j))) ≡ true → name (endpoint t i) ≡ name (endpoint t j) → ⊥
    differ i j h x = true≢false (sym (eq-eqb _ _ x) ∙ not-true _ h)

module _ (t : List ℕ) (c : Call) (a : Accepted t) where
  abbrev x : ℕ
  x = second_payload c

  abbrev has : ℕ → Type 0
  has e = name (endpoint t e) ≡ x

  -- past 12 to 14 the search decides
  past : (f : call_kind c ≡ look_up) → ((n : ℕ) → n ≤ 14 → decide t c ≡ refused n → ⊥) → decide t c ≡ look_up_places (named t x)
  unfolding places framed
  past is free =
      let framing : decide t c ≡ framed t c look_up (look_up_places (named t x)) = decide-places t c ∙ ap (places t c) is in
      framing
      ∙ place-elim P _ 12 (λ f. absurd (f 12 (omega arith) refl))
      (λ _. place-elim P _ 13 (λ f. absurd (f 13 (omega arith) refl))
      (λ _. place-elim P _ 14 (λ f. absurd (f 14 (omega arith) refl)) (λ _ _. refl)))
      (λ n l e. free n l (framing ∙ e))
    where
      P : Decision → Type 0
      P d = ((n : ℕ) → n ≤ 14 → d ≡ refused n → ⊥) → d ≡ look_up_places (named t x)

  by-search : (o : Option ℕ) → Found (endpoints t) (λ e. eqb (name (endpoint t e)) x) o → decide t c ≡ look_up_places o → claims.LooksUp t c
  unfolding look_up_places answer answer_to code data_words refuses
  by-search none h d =
      record {
        found = λ e l n. absurd (true≢false (sym (eq-eqb _ _ n) ∙ h e l));
        named = λ e y. absurd (true≢false (ap refuses (sym d ∙ y)));
        answered = λ e y. ap (answer_to t c) y;
        absent = λ _. d;
        unnamed = λ _ e l n. true≢false (sym (eq-eqb _ _ n) ∙ h e l);
      }
  by-search (some i) h d =
      let mine : has i = eqb-true _ _ h.1 in
      record {
        found = λ e l n. d ∙ ap looked_up (name-once t a i e h.0 l (mine ∙ sym n));
        named =
            λ e y.
            let same : i ≡ e = ap (λ (z : Decision). (data_words t z).0) (sym d ∙ y) in
            subst (λ (j : ℕ). (j < endpoints t) × has j) same (h.0, mine);
        answered = λ e y. ap (answer_to t c) y;
        absent = λ f. absurd (f i h.0 mine);
        unnamed = λ y. absurd (false≢true (ap refuses (sym d ∙ y)));
      }

pub look_up_lem : claims.EveryLookUp
unfolding named
look_up_lem t c a is free =
    by-search t c a (named t (second_payload c)) (found_first (endpoints t) (λ e. eqb (name (endpoint t e)) (second_payload c))) (past t c a is free)
