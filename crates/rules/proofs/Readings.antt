-- Readings that agree give the same decision (specs/Readings): what is outside n and m is refused before it is read.
-- Assumes nothing.
use mathlib.Core.Path.{◌≡◌, refl, ap, ap₂, ◌∙◌}
use mathlib.Core.Bool.{Bool, true, false, not}
use Prim.Native.Nat.{ℕ, ◌<◌}
use lib.Dec.{ltb}
use borrow.Author.Tests.{ltb-true, not-false}
use Rattle.machine.specs.Right.{is_set}
use Rattle.machine.specs.Machine.{Decision}
use Rattle.machine.specs.Guards.{place, look_up_places}
use Rattle.machine.proofs.Bools.{and_left, and_right}
use Rattle.calls.specs.declared.Call.TheVariants.{LookUp, Send, Receive, MyEndpoints, MyRights, Grant, Remove, Revoke, Refused}
use Rattle.rules.specs.Range.{caller_number, endpoint_numbers, grant_numbers, remove_numbers, call_numbers}
use Rattle.rules.specs.Access.{send_access, receive_access, grant_access, revoke_access, remove_access, access_by}
use Rattle.rules.specs.Readings.{SameDecision}

-- after a place only what passes it matters
pub place_same : (b : Bool) (k : ℕ) {x y : Decision} → (b ≡ false → x ≡ y) → place b k x ≡ place b k y
unfolding place
place_same true k same = refl
place_same false k same = same refl

-- the indices that passed the tests are below their bounds
module _ (n m u : ℕ) {x y : Decision} where
  caller-same : (u < n → x ≡ y) → caller_number n u x ≡ caller_number n u y
  unfolding caller_number
  caller-same same = place_same _ 12 (λ p. same (ltb-true _ _ (not-false _ p)))

  endpoint-same : (e : ℕ) → (u < n → e < m → x ≡ y) → endpoint_numbers n m u e x ≡ endpoint_numbers n m u e y
  unfolding endpoint_numbers caller_number
  endpoint-same e same =
      place_same _ 12
      (λ p. place_same _ 16 (λ q. same (ltb-true _ _ (not-false _ p)) (ltb-true _ _ (not-false _ q))))

  grant-same : (g h s : ℕ) → (u < n → g < n → h < n → x ≡ y) → grant_numbers n u g h s x ≡ grant_numbers n u g h s y
  unfolding grant_numbers caller_number
  grant-same g h s same =
      place_same _ 12
      (λ p.
      place_same _ 20
      (λ q.
      let both = not-false _ q in
      place_same (not (is_set s)) 21
      (λ _.
      same (ltb-true _ _ (not-false _ p)) (ltb-true _ _ (and_left (ltb g n) (ltb h n) both)) (ltb-true _ _ (and_right (ltb g n) (ltb h n) both)))))

  remove-same : (g s : ℕ) → (u < n → g < n → x ≡ y) → remove_numbers n u g s x ≡ remove_numbers n u g s y
  unfolding remove_numbers caller_number
  remove-same g s same =
      place_same _ 12
      (λ p.
      place_same _ 20
      (λ q. place_same (not (is_set s)) 21 (λ _. same (ltb-true _ _ (not-false _ p)) (ltb-true _ _ (not-false _ q)))))

pub same-decision : SameDecision
unfolding call_numbers access_by
same-decision n m r s a (Refused u k) = refl
same-decision n m r s a (LookUp u x) = caller-same n m u (λ _. ap look_up_places (a.named x))
same-decision n m r s a (Send u e message) =
    endpoint-same n m u e
    (λ p q. ap (λ (held : ℕ). send_access held e message) (ap (r.rights u) (a.owner e q) ∙ a.rights u (s.owner e) p (a.owned e q)))
same-decision n m r s a (Receive u e) =
    endpoint-same n m u e (λ _ q. ap₂ (λ (o count : ℕ). receive_access u o count e) (a.owner e q) (a.waiting e q))
same-decision n m r s a (MyEndpoints u) = refl
same-decision n m r s a (MyRights u) = refl
same-decision n m r s a (Grant u g h k) =
    grant-same n m u g h k (λ p q v. ap₂ (grant_access u g h k) (a.rights u g p q) (a.rights u h p v))
same-decision n m r s a (Remove u g k) = remove-same n m u g k (λ p q. ap (remove_access u g k) (a.rights u g p q))
same-decision n m r s a (Revoke u g h k) =
    grant-same n m u g h k (λ p q v. ap₂ (revoke_access u g h k) (a.rights u g p q) (a.rights u h p v))
