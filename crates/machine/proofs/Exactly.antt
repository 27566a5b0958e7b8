-- A call is refused by a code exactly where the first place that refuses has it (specs/MachineClaims: EveryCallRefusedExactly).
-- Assumes nothing.
use mathlib.Core.Path.{◌≡◌, refl, sym, ap, subst, ◌∙◌}
use mathlib.Core.Bool.{Bool, true, false, not, ◌&&◌, true≢false, false≢true}
use mathlib.Core.List.{List, [], ◌∷◌, ◌++◌}
use mathlib.Core.Logic.{◌⊎◌, ◌⊎◌.inl, ◌⊎◌.inr, ⊎_elim}
use Prim.Native.Nat.{ℕ}
use borrow.Author.Tests.{not-true}
use Rattle.machine.specs.Call.{Call, Kind, kind_number, one_of, call_kind}
use Rattle.machine.specs.Call.{Kind.look_up, Kind.send, Kind.receive, Kind.my_endpoints, Kind.my_rights, Kind.grant, Kind.remove, Kind.revoke, Kind.stray, Kind.unknown}
use Rattle.machine.specs.Machine.{Decision, places_of, first_refusal, row_of, decide, code}
use Rattle.machine.specs.Machine.{Decision.refused, Decision.looked_up, Decision.sends, Decision.receives, Decision.lists_endpoints, Decision.lists_rights, Decision.grants, Decision.removes, Decision.revokes}
use Rattle.machine.specs.MachineClaims.{none_refuses, RefusesFirst, EveryCallRefusedExactly}
use Rattle.machine.proofs.Bools.{and_left, and_right, either}

-- a decision refuses
unfoldable pub refuses : Decision → Bool
refuses (refused n) = true
refuses (looked_up e) = false
refuses (sends e message) = false
refuses (receives e) = false
refuses (lists_endpoints u) = false
refuses (lists_rights u) = false
refuses (grants g h r) = false
refuses (removes g u r) = false
refuses (revokes g h r) = false

-- a refusal among places, after one more that passes
one_more : (k : Kind) (n : ℕ) (p : List Kind × ℕ × Bool) (ps : List (List Kind × ℕ × Bool)) → (one_of k p.0 && p.2) ≡ false → RefusesFirst k n ps → RefusesFirst k n (p ∷ ps)
unfolding none_refuses
one_more k n p ps e x =
    record {
      before = p ∷ x.before;
      kinds = x.kinds;
      later = x.later;
      among = ap (◌∷◌ p) x.among;
      has = x.has;
      earlier = rw e x.earlier;
    }

-- the first place of a list, where it refuses
at_front : (k : Kind) (ks : List Kind) (n : ℕ) (b : Bool) (ps : List (List Kind × ℕ × Bool)) → (one_of k ks && b) ≡ true → RefusesFirst k n ((ks, n, b) ∷ ps)
unfolding none_refuses
at_front k ks n b ps e =
    record {
      before = [];
      kinds = ks;
      later = ps;
      among = ap (λ (x : Bool). (ks, n, x) ∷ ps) (and_right (one_of k ks) b e);
      has = and_left (one_of k ks) b e;
      earlier = refl;
    }

module _ (k : Kind) (row : Decision) where
  -- a decision by places is refused by the first that refuses, or is the row, where none does
  refused-by : (ps : List (List Kind × ℕ × Bool)) (n : ℕ) → first_refusal k ps row ≡ refused n → RefusesFirst k n ps ⊎ ((none_refuses k ps ≡ true) × (row ≡ refused n))
  unfolding first_refusal none_refuses code
  refused-by [] n e = inr (refl, e)
  refused-by (p ∷ ps) n e =
      ⊎_elim
      (λ here. inl (subst (λ (m : ℕ). RefusesFirst k m (p ∷ ps)) (ap code (rw here at e)) (at_front k p.0 p.1 p.2 ps here)))
      (λ past.
      ⊎_elim (λ x. inl (one_more k n p ps past x)) (λ x. inr (rw past x.0, x.1)) (refused-by ps n (rw past at e)))
      (either (one_of k p.0 && p.2))

  none-refused : (ps : List (List Kind × ℕ × Bool)) → none_refuses k ps ≡ true → first_refusal k ps row ≡ row
  unfolding first_refusal none_refuses
  none-refused [] e = refl
  none-refused (p ∷ ps) e =
      let b = one_of k p.0 && p.2 in
      rw (not-true b (and_left (not b) _ e)) (none-refused ps (and_right (not b) _ e))

  refuses-by : (before : List (List Kind × ℕ × Bool)) (ks : List Kind) (n : ℕ) (later : List (List Kind × ℕ × Bool)) → none_refuses k before ≡ true → one_of k ks ≡ true → first_refusal k (before ++ ((ks, n, true) ∷ later)) row ≡ refused n
  unfolding first_refusal none_refuses
  refuses-by [] ks n later e h = rw h
  refuses-by (p ∷ ps) ks n later e h =
      let b = one_of k p.0 && p.2 in
      rw (not-true b (and_left (not b) _ e)) (refuses-by ps ks n later (and_right (not b) _ e) h)

  none-or-one : (ps : List (List Kind × ℕ × Bool)) → refuses (first_refusal k ps row) ≡ false → none_refuses k ps ≡ true
  unfolding first_refusal none_refuses refuses
  none-or-one [] e = refl
  none-or-one (p ∷ ps) e =
      ⊎_elim (λ here. absurd (true≢false (rw here at e))) (λ past. rw past (none-or-one ps (rw past at e))) (either (one_of k p.0 && p.2))

not-refused : (d : Decision) → ((n : ℕ) → d ≡ refused n → ⊥) → refuses d ≡ false
unfolding refuses
not-refused (refused n) f = absurd (f n refl)
not-refused (looked_up e) f = refl
not-refused (sends e message) f = refl
not-refused (receives e) f = refl
not-refused (lists_endpoints u) f = refl
not-refused (lists_rights u) f = refl
not-refused (grants g h r) f = refl
not-refused (removes g u r) f = refl
not-refused (revokes g h r) f = refl

-- a kind that passes all its places has a row, which refuses nothing
pub row-serves : (t : List ℕ) (c : Call) (k : Kind) → none_refuses k (places_of t c) ≡ true → refuses (row_of t c k) ≡ false
unfolding none_refuses places_of one_of kind_number row_of refuses
row-serves t c look_up e = refl
row-serves t c send e = refl
row-serves t c receive e = refl
row-serves t c my_endpoints e = refl
row-serves t c my_rights e = refl
row-serves t c grant e = refl
row-serves t c remove e = refl
row-serves t c revoke e = refl
row-serves t c stray e = absurd (false≢true e)
row-serves t c unknown e = absurd (false≢true e)

pub refused-exactly : EveryCallRefusedExactly
unfolding decide refuses
refused-exactly t c =
    record {
      condition =
          λ n e.
          ⊎_elim (λ x. x) (λ x. absurd (false≢true (sym (row-serves t c (call_kind c) x.0) ∙ ap refuses x.1)))
          (refused-by (call_kind c) _ (places_of t c) n e);
      refusal = λ n x. rw x.among (refuses-by (call_kind c) _ x.before x.kinds n x.later x.earlier x.has);
      row = λ e. none-refused (call_kind c) _ (places_of t c) e;
      passed = λ f. none-or-one (call_kind c) _ (places_of t c) (not-refused (decide t c) f);
    }
