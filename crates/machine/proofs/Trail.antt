-- Every right has a source, and none is lost except by its holder's remove or by a revoke (specs/MachineClaims:
-- EveryCallEachRight), call by call. The first follows from there along every run (EveryRunRightsProvenance). A remove is all
-- or nothing, and of one right it is document 01's (EveryRemoveAllOrNothing, EveryRemoveOfOne).
-- Assumes nothing.
use mathlib.Core.Path.{◌≡◌, refl, sym, ap, ap₂, subst, ◌∙◌}
use mathlib.Core.Bool.{true, false, not, ◌&&◌, ◌||◌, or-true, and-true, and-false}
use mathlib.Core.Logic.{◌⊎◌, ◌⊎◌.inl, ◌⊎◌.inr, ⊎_elim}
use mathlib.Core.List.{List, [], ◌∷◌}
use mathlib.Core.Option.{some}
use Prim.Native.Nat.{ℕ, ◌^◌, ◌<◌}
use native.Mathlib.Omega.{arith}
use borrow.Author.Tests.{eqb-true}
use lib.Dec.{eqb}
use lib.ListN.{drop, set}
use Rattle.machine.specs.Word.{field_c, payload}
use Rattle.machine.specs.Right.{SEND, GRANT, REMOVE, REVOKE, is_set, holds, adds, without}
use Rattle.machine.specs.Table.{domains, rights, set_rights, set_endpoint}
use Rattle.machine.specs.Check.{Accepted}
use Rattle.machine.specs.Call.{Call, Call.one, Call.two, first, kind_number, one_of, caller_of, split}
use Rattle.machine.specs.Machine.{Decision, places_of, first_refusal, row_of, decide, effect, after, step}
use Rattle.machine.specs.Influence.{influences}
use Rattle.machine.specs.Machine.{Decision.grants, Decision.removes, Decision.revokes, Effect.new_rights, Effect.new_endpoint}
use Rattle.machine.specs.Run.{run}
use Rattle.machine.proofs.Everything.{everything}
use Rattle.machine.specs.Examples.{T, L}
use Rattle.machine.specs.Trail.{GivenBy, GivenAlong, RemovedBy, RevokedBy}
use Rattle.machine.specs.MachineClaims.{StaysAccepted, EveryCallEachRight, AllOrNothing, EveryRemoveAllOrNothing, remove_of_one, EveryRemoveOfOne, EveryRunRightsProvenance}
use Rattle.machine.proofs.Bools.{and_left, or_cases, either}
use Rattle.machine.proofs.Table as table
use Rattle.machine.proofs.Right.{holds-adds, holds-without, holds-trans, rights-payload}
use Rattle.machine.proofs.Accepted.{accepted-sized}
use Rattle.machine.proofs.Step.{InOrder, call-in-order, stays-accepted}
use Rattle.machine.proofs.Decide.{Rows, decide-elim}

-- ---- a set of rights after one call

-- what was written is read back
written : (t : List ℕ) → Accepted t → (h g s : ℕ) → InOrder t (new_rights h g s) → rights (set_rights t h g s) h g ≡ s
unfolding rights
written t a h g s o =
    ap payload (table.set_rights-same t (accepted-sized t a) h g s o.0 o.1) ∙ rights-payload s o.2

-- What h holds on g is as it was, or was added to by a grant under all that its places have shown, or was reduced by h's own
-- remove or by a revoke.
module _ (t : List ℕ) (c : Call) (a : Accepted t) (h g : ℕ) (ph : h < domains t) (pg : g < domains t)
    (P : ℕ → Type 0)
    (kept : P (rights t h g))
    (granted : (u r : ℕ) → caller_of c ≡ some u → u < domains t → decide t c ≡ grants g h r → holds (rights t u g) GRANT ≡ true → holds (rights t u g) r ≡ true → influences t u h ≡ true → P (adds (rights t h g) r))
    (removed : (r : ℕ) → caller_of c ≡ some h → decide t c ≡ removes g h r → holds (rights t h g) REMOVE ≡ true → P (without (rights t h g) r))
    (revoked : (u r : ℕ) → caller_of c ≡ some u → u < domains t → decide t c ≡ revokes g h r → holds (rights t u g) REVOKE ≡ true → influences t u h ≡ true → P (without (rights t h g) r)) where
  -- this, by the decision on the call
  Left : Decision → Type 0
  Left d = decide t c ≡ d → InOrder t (effect t d) → P (rights (after t (effect t d)) h g)

  write-left : (h' g' s : ℕ) → InOrder t (new_rights h' g' s) → (h ≡ h' → g ≡ g' → P s) → P (rights (set_rights t h' g' s) h g)
  unfolding rights
  write-left h' g' s o here =
      ⊎_elim (λ x. rw (x.0, x.1, written t a h' g' s o) (here x.0 x.1)) (λ x. rw x kept)
      (table.set_rights-either t (accepted-sized t a) h' g' s o.0 o.1 h g pg)

  endpoint-left : (e : ℕ) (q : List ℕ) → InOrder t (new_endpoint e q) → P (rights (set_endpoint t e q) h g)
  unfolding rights
  endpoint-left e q o = rw (table.set_endpoint-rights t (accepted-sized t a) e q o.0 o.1 h g ph pg) kept

  rows : Rows t c Left
  unfolding Left after effect
  rows =
      record {
        refuses = λ _ _ _ _. kept;
        looks_up = λ _ _ _ _ _ _. kept;
        sending = λ _ _ _ _ _ o. endpoint-left _ _ o;
        receiving = λ _ _ _ _ _ _ o. endpoint-left _ _ o;
        endpoints_listed = λ _ _ _ _. kept;
        rights_listed = λ _ _ _ _. kept;
        granting =
            λ k _ _ _ _ may had toward comes o.
            write-left _ _ _ o
            (λ p q. rw (← p, ← q) (granted _ _ k.called_by k.below (rw (p, q) comes) (rw q may) (rw q had) (rw p toward)));
        removing =
            λ k _ _ may _ comes o.
            write-left _ _ _ o
            (λ p q. rw (← p, ← q) (removed _ (rw p k.called_by) (rw (p, q) comes) (rw (p, q) may)));
        revoking =
            λ k _ _ _ may toward comes o.
            write-left _ _ _ o
            (λ p q. rw (← p, ← q) (revoked _ _ k.called_by k.below (rw (p, q) comes) (rw q may) (rw p toward)));
      }

  pub rights-elim : P (rights (step t c) h g)
  unfolding Left step
  rights-elim = decide-elim t c Left rows refl (call-in-order t c a)

-- ---- a single right after one call

module _ (t : List ℕ) (c : Call) (a : Accepted t) (h g k : ℕ) (ph : h < domains t) (pg : g < domains t) where
  -- of a set that rights were cleared from: what is in it was there, and what was there is in it or among those
  had : (r : ℕ) → holds (without (rights t h g) r) (2 ^ k) ≡ true → holds (rights t h g) (2 ^ k) ≡ true
  had r now = and_left (holds (rights t h g) (2 ^ k)) _ (sym (holds-without (rights t h g) r k) ∙ now)

  kept-or-among : (r : ℕ) → holds (rights t h g) (2 ^ k) ≡ true → (holds (without (rights t h g) r) (2 ^ k) ≡ true) ⊎ (holds r (2 ^ k) ≡ true)
  kept-or-among r was =
      ⊎_elim inr (λ x. inl (holds-without (rights t h g) r k ∙ ap₂ (λ b d. b && not d) was x)) (either (holds r (2 ^ k)))

  had-or-given : holds (rights (step t c) h g) (2 ^ k) ≡ true → (holds (rights t h g) (2 ^ k) ≡ true) ⊎ GivenBy h g (2 ^ k) t c
  had-or-given =
      rights-elim t c a h g ph pg
      (λ s. holds s (2 ^ k) ≡ true → (holds (rights t h g) (2 ^ k) ≡ true) ⊎ GivenBy h g (2 ^ k) t c) inl
      (λ u r by below comes may had toward now.
      ⊎_elim inl
      (λ x.
      inr
      (record {
        given = r;
        caller = u;
        grant = comes;
        among = x;
        called_by = by;
        below = below;
        held = holds-trans (rights t u g) r (2 ^ k) had x;
        may_grant = may;
        toward = toward;
      }))
      (or_cases (holds (rights t h g) (2 ^ k)) (holds r (2 ^ k)) (sym (holds-adds (rights t h g) r k) ∙ now)))
      (λ r _ _ _ now. inl (had r now))
      (λ u r _ _ _ _ _ now. inl (had r now))

  kept-or-cleared : holds (rights t h g) (2 ^ k) ≡ true → (holds (rights (step t c) h g) (2 ^ k) ≡ true) ⊎ (RemovedBy h g (2 ^ k) t c ⊎ RevokedBy h g (2 ^ k) t c)
  kept-or-cleared was =
      rights-elim t c a h g ph pg
      (λ s. (holds s (2 ^ k) ≡ true) ⊎ (RemovedBy h g (2 ^ k) t c ⊎ RevokedBy h g (2 ^ k) t c)) (inl was)
      (λ u r _ _ _ _ _ _. inl (rw (holds-adds, was)))
      (λ r by comes may.
      ⊎_elim inl (λ x. inr (inl (record { removed = r; remove = comes; among = x; called_by = by; may_remove = may })))
      (kept-or-among r was))
      (λ u r by below comes may toward.
      ⊎_elim inl
      (λ x.
      inr
      (inr
      (record {
        revoked = r;
        caller = u;
        revoke = comes;
        among = x;
        called_by = by;
        below = below;
        may_revoke = may;
        toward = toward;
      })))
      (kept-or-among r was))

  -- the set after a call that writes it
  now : (s : ℕ) → effect t (decide t c) ≡ new_rights h g s → rights (step t c) h g ≡ s
  unfolding step after
  now s e = ap (λ x. rights (after t x) h g) e ∙ written t a h g s (subst (InOrder t) e (call-in-order t c a))

  given-now : GivenBy h g (2 ^ k) t c → holds (rights (step t c) h g) (2 ^ k) ≡ true
  unfolding effect
  given-now x = rw (now (adds (rights t h g) x.given) (ap (effect t) x.grant), holds-adds, x.among, or-true)

  cleared-now : (r : ℕ) → effect t (decide t c) ≡ new_rights h g (without (rights t h g) r) → holds r (2 ^ k) ≡ true → holds (rights (step t c) h g) (2 ^ k) ≡ false
  cleared-now r e among = rw (now (without (rights t h g) r) e, holds-without, among, and-false)

  removed-now : RemovedBy h g (2 ^ k) t c → holds (rights (step t c) h g) (2 ^ k) ≡ false
  unfolding effect
  removed-now x = cleared-now x.removed (ap (effect t) x.remove) x.among

  revoked-now : RevokedBy h g (2 ^ k) t c → holds (rights (step t c) h g) (2 ^ k) ≡ false
  unfolding effect
  revoked-now x = cleared-now x.revoked (ap (effect t) x.revoke) x.among

pub each_right : EveryCallEachRight
each_right t c a h g k ph pg =
    record {
      had_or_given = had-or-given t c a h g k ph pg;
      kept_or_cleared = kept-or-cleared t c a h g k ph pg;
      given = given-now t c a h g k ph pg;
      removed = removed-now t c a h g k ph pg;
      revoked = revoked-now t c a h g k ph pg;
    }

-- ---- a remove of several rights, and of one

-- Of a call of kind 7 only the remove's own row writes.
pub all-or-nothing : EveryRemoveAllOrNothing
unfolding step effect after
all-or-nothing t c a seven =
    decide-elim t c (λ d. InOrder t (effect t d) → AllOrNothing t c (after t (effect t d)))
    (record {
      refuses = λ _ _ _. inr refl;
      looks_up = λ _ _ _ _ _. inr refl;
      sending = λ _ other _ _ _. absurd (omega arith);
      receiving = λ _ other _ _ _ _. absurd (omega arith);
      endpoints_listed = λ _ _ _. inr refl;
      rights_listed = λ _ _ _. inr refl;
      granting = λ _ other _ _ _ _ _ _ _. absurd (omega arith);
      removing =
          λ _ _ _ may had o.
          let now = written t a _ _ _ o in
          inl
          (record {
            may_remove = may;
            held = had;
            cleared = λ k among. rw (now, holds-without, among, and-false);
            others = λ k among. rw (now, holds-without, among, and-true);
          });
      revoking = λ _ other _ _ _ _ _. absurd (omega arith);
    })
    (call-in-order t c a)

pub remove-of-one : EveryRemoveOfOne
unfolding decide places_of first_refusal row_of one_of kind_number is_set
remove-of-one t c is single =
    ⊎_elim
    (λ x. ⊎_elim (λ e. same SEND (eqb-true r SEND e) refl) (λ e. same GRANT (eqb-true r GRANT e) refl) (or_cases (eqb r SEND) (eqb r GRANT) x))
    (λ e. same REMOVE (eqb-true r REMOVE e) refl)
    (or_cases (eqb r SEND || eqb r GRANT) (eqb r REMOVE) single)
  where
    r : ℕ
    r = field_c (first c)

    same : (k : ℕ) → r ≡ k → is_set k ≡ (eqb k SEND || eqb k GRANT || eqb k REMOVE) → decide t c ≡ remove_of_one t c
    same k e s = rw (is, e, s)

-- ---- along calls

first-gave : (t : List ℕ) (c : Call) (cs : List Call) (h g r : ℕ) → GivenBy h g r t c → GivenAlong h g r t (c ∷ cs)
unfolding run
first-gave t c cs h g r by = record { before = []; call = c; later = cs; among = refl; given = by }

later-gave : (t : List ℕ) (c : Call) (cs : List Call) (h g r : ℕ) → GivenAlong h g r (step t c) cs → GivenAlong h g r t (c ∷ cs)
unfolding run
later-gave t c cs h g r x =
    record { before = c ∷ x.before; call = x.call; later = x.later; among = ap (◌∷◌ c) x.among; given = x.given }

pub rights-provenance : EveryRunRightsProvenance
unfolding run
rights-provenance t [] a h g k ph pg held = inl held
rights-provenance t (c ∷ cs) a h g k ph pg held =
    let stays : StaysAccepted t (step t c) = stays-accepted t c a in
    let n : domains (step t c) ≡ domains t = stays.frame.same_domains in
    ⊎_elim (λ x. ⊎_elim inl (λ y. inr (first-gave t c cs h g (2 ^ k) y)) (had-or-given t c a h g k ph pg x))
    (λ x. inr (later-gave t c cs h g (2 ^ k) x))
    (rights-provenance (step t c) cs stays.accepted h g k (omega arith) (omega arith) held)

-- ---- each occurs: in L the second call gives domain 0 SEND on domain 2; in P11 domain 1 gives up REMOVE on it; and where
-- domain 1 has REVOKE on it, it takes SEND back from domain 0

pub given-in-L : GivenAlong 0 2 SEND T (split L)
unfolding everything
given-in-L =
    record {
      before = two 0x2000_0100 0xF000_0005 ∷ [];
      call = one 0x6042_0001;
      later = split (drop 3 L);
      among = refl;
      given =
          record {
            given = SEND;
            caller = 1;
            grant = refl;
            among = refl;
            called_by = refl;
            below = omega arith;
            held = refl;
            may_grant = refl;
            toward = refl;
          };
    }

pub removed-in-P11 : RemovedBy 1 2 REMOVE T (one 0x7042_0004)
unfolding everything
removed-in-P11 = record { removed = REMOVE; remove = refl; among = refl; called_by = refl; may_remove = refl }

pub revoked-after-L : RevokedBy 0 2 SEND (set (set T 3 0x2000_0001) 6 0x2000_0008) (one 0x8042_0001)
unfolding everything
revoked-after-L =
    record {
      revoked = SEND;
      caller = 1;
      revoke = refl;
      among = refl;
      called_by = refl;
      below = omega arith;
      may_revoke = refl;
      toward = refl;
    }
