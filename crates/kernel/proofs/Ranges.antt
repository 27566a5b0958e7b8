-- What a call's indices and rights are once the range tests are passed, and what an accepted table has there. Assumes nothing.
use mathlib.Core.Path.{◌≡◌, refl, sym, ap, subst, ◌∙◌}
use mathlib.Core.Bool.{Bool, true, false, not, ◌&&◌}
use mathlib.Core.List.{List}
use Prim.Native.Nat.{ℕ, ◌+◌, ◌<◌, ◌≤◌}
use native.Mathlib.Omega.{arith}
use lib.Dec.{ltb, leb}
use lib.ListN.{length, get_or}
use borrow.Author.Tests.{ltb-true, leb-true}
use Rattle.machine.specs.Word.{kind}
use Rattle.machine.specs.Right.{is_set, adds, without}
use Rattle.machine.specs.Table.{domains, endpoints, rights_at, endpoint_at, rights, endpoint}
use Rattle.machine.specs.Queue.{owner}
use Rattle.machine.specs.Check.{Accepted, identity_ok, queue_ok, endpoint_ok}
use Rattle.machine.specs.Machine as machine
use Rattle.machine.specs.Machine.{Decision}
use Rattle.machine.specs.Guards.{place}
use Rattle.machine.proofs.Accepted.{accepted-sized, accepted-endpoint, info-of}
use Rattle.machine.proofs.Bools.{and_left, and_right}
use Rattle.machine.proofs.Queue.{sound-of}
use Rattle.machine.proofs.Right.{adds-within, without-le}
use Rattle.machine.proofs.Step.{rights-held}
use Rattle.machine.proofs.Table.{rights-below, endpoint-fits}
use Rattle.rules.specs.Range.{caller_number, endpoint_numbers, grant_numbers, remove_numbers}

-- a decision that isn't a refusal
abbrev Goes : Decision → Type 0
Goes (machine.refused k) = ⊥
Goes (machine.looked_up e) = Unit {0}
Goes (machine.sends e message) = Unit {0}
Goes (machine.receives e) = Unit {0}
Goes (machine.lists_endpoints u) = Unit {0}
Goes (machine.lists_rights u) = Unit {0}
Goes (machine.grants g h r) = Unit {0}
Goes (machine.removes g u r) = Unit {0}
Goes (machine.revokes g h r) = Unit {0}

-- it has passed each place before it
passes : (b : Bool) (k : ℕ) (next : Decision) → Goes (place b k next) → (b ≡ false) × Goes next
unfolding place
passes true k next g = absurd g
passes false k next g = (refl, g)

holds_then : (b : Bool) → not b ≡ false → b ≡ true
holds_then true h = refl
holds_then false h = sym h

below : (a b : ℕ) → not (ltb a b) ≡ false → a < b
below a b h = ltb-true a b (holds_then (ltb a b) h)

-- ---- the indices and rights, where no range test failed
goes : (X : Decision → Decision) → ((next : Decision) → next ≡ X next) → Goes (X (machine.lists_rights 0))
goes X tested = subst (λ (d : Decision). Goes d) (tested (machine.lists_rights 0)) tt

pub in-caller : (n u : ℕ) → ((next : Decision) → next ≡ caller_number n u next) → u < n
unfolding caller_number
in-caller n u tested = below u n (passes (not (ltb u n)) 12 _ (goes (caller_number n u) tested)).0

pub in-endpoint : (n m u e : ℕ) → ((next : Decision) → next ≡ endpoint_numbers n m u e next) → (u < n) × (e < m)
unfolding endpoint_numbers caller_number
in-endpoint n m u e tested =
    let caller = passes (not (ltb u n)) 12 _ (goes (endpoint_numbers n m u e) tested) in
    let named = passes (not (ltb e m)) 16 _ caller.1 in
    (below u n caller.0, below e m named.0)

-- a grant's, and a revoke's
pub record InGrant (n u g h s : ℕ) : Type 0 where
  pub caller : u < n
  pub target : g < n
  pub other : h < n
  pub few : s ≤ 15

pub in-grant : (n u g h s : ℕ) → ((next : Decision) → next ≡ grant_numbers n u g h s next) → InGrant n u g h s
unfolding grant_numbers caller_number is_set
in-grant n u g h s tested =
    let caller = passes (not (ltb u n)) 12 _ (goes (grant_numbers n u g h s) tested) in
    let both = passes (not (ltb g n && ltb h n)) 20 _ caller.1 in
    let set = passes (not (is_set s)) 21 _ both.1 in
    let known = holds_then (ltb g n && ltb h n) both.0 in
    record {
      caller = below u n caller.0;
      target = ltb-true g n (and_left (ltb g n) (ltb h n) known);
      other = ltb-true h n (and_right (ltb g n) (ltb h n) known);
      few = leb-true s 15 (and_right (leb 1 s) (leb s 15) (holds_then (is_set s) set.0));
    }

pub in_remove : (n u g s : ℕ) → ((next : Decision) → next ≡ remove_numbers n u g s next) → (u < n) × (g < n) × (s ≤ 15)
unfolding remove_numbers caller_number is_set
in_remove n u g s tested =
    let caller = passes (not (ltb u n)) 12 _ (goes (remove_numbers n u g s) tested) in
    let target = passes (not (ltb g n)) 20 _ caller.1 in
    let set = passes (not (is_set s)) 21 _ target.1 in
    (below u n caller.0, below g n target.0, leb-true s 15 (and_right (leb 1 s) (leb s 15) (holds_then (is_set s) set.0)))

-- ---- the words at these indices in an accepted table
module _ (t : List ℕ) (a : Accepted t) (n : ℕ) (is : n ≡ domains t) where
  pub right-in : (h g at : ℕ) → h < n → g < n → at ≡ rights_at n h g → at < length t
  right-in h g at ph pg place =
      let qh : h < domains t = omega (arith, ph, is) in
      let qg : g < domains t = omega (arith, pg, is) in
      omega (arith, place ∙ ap (λ (k : ℕ). rights_at k h g) is, rights-below (domains t) h g qh qg, accepted-sized t a)

  pub endpoint-in : (e m : ℕ) → m ≡ endpoints t → e < m → endpoint_at (domains t) e + 12 ≤ length t
  endpoint-in e m all l =
      let q : e < endpoints t = omega (arith, l, all) in
      omega (arith, endpoint-fits (domains t) (endpoints t) e q, accepted-sized t a)

  pub owner-in : (e m w : ℕ) → m ≡ endpoints t → e < m → w ≡ owner (endpoint t e) → w < n
  owner-in e m w all l own =
      let q : e < endpoints t = omega (arith, l, all) in
      omega (arith, (info-of (domains t) (endpoint t e) (accepted-endpoint t a e q)).0, own, is)

  -- the lost word has its kind
  pub lost-in : (e m : ℕ) → m ≡ endpoints t → e < m → kind (get_or (endpoint t e) 3 0) ≡ 6
  unfolding endpoint_ok
  lost-in e m all l =
      let q : e < endpoints t = omega (arith, l, all) in
      (sound-of (endpoint t e) (and_right (identity_ok (domains t) (endpoint t e)) (queue_ok (endpoint t e)) (accepted-endpoint t a e q))).is_lost

  -- rights that are added to and taken from what is held
  right-small : (h g : ℕ) → h < n → g < n → rights t h g ≤ 15
  right-small h g ph pg =
      let qh : h < domains t = omega (arith, ph, is) in
      let qg : g < domains t = omega (arith, pg, is) in
      rights-held t a h g qh qg

  pub more-fits : (h g r s : ℕ) → h < n → g < n → r ≤ 15 → s ≡ adds (rights t h g) r → s ≤ 15
  more-fits h g r s ph pg few new = omega (arith, new, adds-within (rights t h g) r (right-small h g ph pg) few)

  pub less-fits : (h g r s : ℕ) → h < n → g < n → s ≡ without (rights t h g) r → s ≤ 15
  less-fits h g r s ph pg new = omega (arith, new, without-le (rights t h g) r, right-small h g ph pg)
