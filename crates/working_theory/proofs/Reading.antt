-- What is read of a state is what is read of the table that it represents. Assumes nothing.
use mathlib.Core.Path.{◌≡◌, refl, sym, ap, ap₂, ◌∙◌}
use mathlib.Core.Bool.{Bool, true, false, not, ◌&&◌}
use mathlib.Core.List.{List}
use mathlib.Core.Option.{Option, none, some}
use Prim.Native.Nat.{ℕ, zero, suc, ◌%◌, ◌<◌}
use native.Mathlib.Decide.{dec_lt}
use native.Mathlib.Nat.{mod-eq_of_lt}
use native.Mathlib.Omega.{arith}
use lib.Dec.{eqb, ltb}
use borrow.Author.Tests.{eqb-true, eq-eqb, ltb-true, not-true}
use lib.ListN.{get_or}
use Rattle.std.specs.Prelude as std
use Rattle.machine.specs.Word.{field_b}
use Rattle.machine.specs.Table.{endpoints, endpoint}
use Rattle.machine.specs.Queue.{name, owner}
use Rattle.machine.specs.Below.{first_below}
use Rattle.machine.specs.Check.{name_new, Accepted}
use Rattle.machine.specs.Machine.{named, decide}
use Rattle.machine.proofs.Accepted.{accepted-counts, accepted-owner, accepted-name}
use Rattle.machine.proofs.Below.{first-same, all-at}
use Rattle.machine.proofs.Bools.{and_left, and_right, cond-elim}
use Rattle.calls.specs.Split.{call_of}
use Rattle.calls.specs.Decode.{decoded}
use Rattle.calls.proofs.Decided.{decided}
use Rattle.rules.specs.Access.{decided_by}
use Rattle.rules.specs.Readings.{SameReading}
use Rattle.rules.proofs.Places.{reading_of, decide-places}
use Rattle.rules.proofs.Readings.{same-decision}
use Rattle.ring.specs.Ring.{ring_owner}
use Rattle.ring.specs.Claims.{RepresentsQueue}
use Rattle.working_theory.specs.State.{ring_at, hint_place, named_in, reading_from}
use Rattle.working_theory.specs.Represents.{Represents}

-- a ring's owner is its queue's
ring-owner : (r q : List ℕ) → RepresentsQueue r q → ring_owner r ≡ owner q
unfolding ring_owner owner
ring-owner r q s = ap field_b s.same_info

-- the first that passes a test, where none before it does
pub none_before : (k : ℕ) (p : ℕ → Bool) → ((i : ℕ) → i < k → p i ≡ false) → first_below k p ≡ none
unfolding first_below
none_before zero p f = refl
none_before (suc k) p f = rw (none_before k p (λ i l. f i (omega arith)), f k (omega arith))

pub first-is : (k : ℕ) (p : ℕ → Bool) (e : ℕ) → e < k → p e ≡ true → ((i : ℕ) → i < e → p i ≡ false) → first_below k p ≡ some e
unfolding first_below
first-is zero p e l is before = absurd (omega arith)
first-is (suc k) p e l is before = go (λ less. first-is k p e less is before) (dec_lt e k)
  where
    go : (e < k → first_below k p ≡ some e) → Dec (e < k) → first_below (suc k) p ≡ some e
    go sooner (yes less) = rw (sooner less)
    go sooner (no last) =
        let same : k ≡ e = omega arith in
        rw (none_before k p (λ i b. before i (omega arith)), ap p same ∙ is) (ap some same)

module _ (n m : ℕ) (rows : List (List ℕ)) (rings names owned t : List ℕ) (a : Accepted t) (x : Represents n m rows rings names owned t) where
  name-at : (e : ℕ) → e < m → get_or names (e % 32) 0 ≡ name (endpoint t e)
  name-at e l =
      ap (λ (i : ℕ). get_or names i 0) (mod-eq_of_lt (omega (arith, (accepted-counts t a).2, x.endpoints))) ∙ x.same_names e l

  -- an endpoint that has a name is the only one, and so the first
  only_one : (k e : ℕ) → e < m → get_or names (e % 32) 0 ≡ k → first_below (endpoints t) (λ i. eqb (name (endpoint t i)) k) ≡ some e
  unfolding name_new
  only_one k e l is =
      let b : e < endpoints t = rw x.endpoints at l in
      let has : name (endpoint t e) ≡ k = sym (name-at e l) ∙ is in
      first-is (endpoints t) (λ i. eqb (name (endpoint t i)) k) e b (eq-eqb (name (endpoint t e)) k has)
      (λ i before.
      ap (λ (z : ℕ). eqb (name (endpoint t i)) z) (sym has)
      ∙ not-true _ (all-at e (λ f. not (eqb (name (endpoint t f)) (name (endpoint t e)))) (accepted-name t a e b) i before))

  found-same : (hints : List ℕ) (k : ℕ) → named_in m names hints k ≡ named t k
  unfolding named_in named
  found-same hints k =
      cond-elim (λ (o : Option ℕ). o ≡ first_below (endpoints t) (λ e. eqb (name (endpoint t e)) k))
      (ltb h m && eqb (get_or names (h % 32) 0) k)
      (λ both.
      sym (only_one k h (ltb-true h m (and_left (ltb h m) (eqb (get_or names (h % 32) 0) k) both))
      (eqb-true (get_or names (h % 32) 0) k (and_right (ltb h m) (eqb (get_or names (h % 32) 0) k) both))))
      (λ _.
      first-same m _ _ (λ e l. ap (λ (v : ℕ). eqb v k) (name-at e l))
      ∙ ap (λ (i : ℕ). first_below i (λ e. eqb (name (endpoint t e)) k)) x.endpoints)
    where
      h : ℕ
      h = get_or hints (hint_place k) 0

  same-reading : (hints : List ℕ) → SameReading n m (reading_from rows rings (named_in m names hints)) (reading_of t)
  same-reading hints =
      record {
        rights = x.rights.same;
        owner = λ e l. ring-owner (ring_at rings e) (endpoint t e) (x.queues e l);
        owned = λ e l. omega (arith, accepted-owner t a e (omega (arith, x.endpoints)), x.domains);
        waiting = λ e l. (x.queues e l).same_count;
        named = found-same hints;
      }

  -- so the decision on a call is the same
  pub decided-same : (hints : List ℕ) (w : ℕ) (s : std.Option ℕ) → decided_by n m (reading_from rows rings (named_in m names hints)) (decoded w s) ≡ decide t (call_of w s)
  decided-same hints w s =
      same-decision n m (reading_from rows rings (named_in m names hints)) (reading_of t) (same-reading hints) (decoded w s)
      ∙ ap₂ (λ (i j : ℕ). decided_by i j (reading_of t) (decoded w s)) x.domains x.endpoints
      ∙ decide-places t (decoded w s)
      ∙ sym (decided t w s)
