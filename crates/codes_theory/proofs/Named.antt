-- Which domains and sets a call about rights names, where it isn't refused (specs/Claims: EveryCallNamesKnown). Assumes nothing.
use mathlib.Core.Path.{◌≡◌, refl, sym, ap, subst, ◌∙◌}
use mathlib.Core.Bool.{Bool, true, false, not, ◌&&◌, true≢false}
use mathlib.Core.List.{List, [], ◌∷◌}
use Prim.Native.Nat.{ℕ, zero, suc, ◌<◌, ◌≤◌}
use borrow.Author.Tests.{ltb-true, leb-true, not-true, not-false}
use lib.Dec.{leb, ltb}
use Rattle.machine.specs.Right.{is_set}
use Rattle.machine.specs.Word.{field_c}
use Rattle.machine.specs.Table.{domains}
use Rattle.machine.specs.Call.{Call, Kind, first, kind_number, one_of, call_kind}
use Rattle.machine.specs.Call.{Kind.look_up, Kind.send, Kind.receive, Kind.my_endpoints, Kind.my_rights, Kind.grant, Kind.remove, Kind.revoke, Kind.stray, Kind.unknown}
use Rattle.machine.specs.Machine.{Decision, places_of, row_of, decide}
use Rattle.machine.specs.Machine.{Decision.refused, Decision.looked_up, Decision.sends, Decision.receives, Decision.lists_endpoints, Decision.lists_rights, Decision.grants, Decision.removes, Decision.revokes}
use Rattle.machine.specs.MachineClaims.{none_refuses}
use Rattle.machine.proofs.Bools.{and_left, and_right}
use Rattle.machine.proofs.Exactly.{refuses, refused-exactly}
use Rattle.codes_theory.specs.Claims.{EveryCallNamesKnown}

-- what a decision shows of the domains and the set that it names
abbrev Shown : List ℕ → Decision → Type 0
Shown t (refused n) = Unit {0}
Shown t (looked_up e) = Unit {0}
Shown t (sends e message) = Unit {0}
Shown t (receives e) = Unit {0}
Shown t (lists_endpoints u) = Unit {0}
Shown t (lists_rights u) = Unit {0}
Shown t (grants g h r) = (g < domains t) × (h < domains t) × (1 ≤ r) × (r ≤ 15)
Shown t (removes g h r) = (g < domains t) × (1 ≤ r) × (r ≤ 15)
Shown t (revokes g h r) = (g < domains t) × (h < domains t) × (1 ≤ r) × (r ≤ 15)

set-of : (r : ℕ) → is_set r ≡ true → (1 ≤ r) × (r ≤ 15)
unfolding is_set
set-of r e = (leb-true 1 r (and_left (leb 1 r) (leb r 15) e), leb-true r 15 (and_right (leb 1 r) (leb r 15) e))

-- whether place i, from 0, refuses a call of kind k; where no place refuses, it doesn't
refuses_at : Kind → ℕ → List (List Kind × ℕ × Bool) → Bool
refuses_at k i [] = false
refuses_at k zero (p ∷ ps) = one_of k p.0 && p.2
refuses_at k (suc i) (p ∷ ps) = refuses_at k i ps

passes : (k : Kind) (i : ℕ) (ps : List (List Kind × ℕ × Bool)) → none_refuses k ps ≡ true → refuses_at k i ps ≡ false
unfolding none_refuses refuses_at
passes k i [] e = refl
passes k zero (p ∷ ps) e = not-true _ (and_left (not (one_of k p.0 && p.2)) (none_refuses k ps) e)
passes k (suc i) (p ∷ ps) e = passes k i ps (and_right (not (one_of k p.0 && p.2)) (none_refuses k ps) e)

-- what 20 shows of the target and the recipient or holder
both-known : (n g h : ℕ) → not (ltb g n && ltb h n) ≡ false → (g < n) × (h < n)
both-known n g h e =
    let x = not-false (ltb g n && ltb h n) e in
    (ltb-true g n (and_left (ltb g n) (ltb h n) x), ltb-true h n (and_right (ltb g n) (ltb h n) x))

-- what a call shows that no place refuses: of those in the list, 10 and 11 are the two of 20, and 12 is that of 21
row_shows : (t : List ℕ) (c : Call) (k : Kind) → none_refuses k (places_of t c) ≡ true → Shown t (row_of t c k)
unfolding refuses_at places_of one_of kind_number row_of
row_shows t c look_up e = tt
row_shows t c send e = tt
row_shows t c receive e = tt
row_shows t c my_endpoints e = tt
row_shows t c my_rights e = tt
row_shows t c grant e =
    let known = both-known (domains t) _ _ (passes grant 10 (places_of t c) e) in
    let set = set-of (field_c (first c)) (not-false _ (passes grant 12 (places_of t c) e)) in
    (known.0, known.1, set.0, set.1)
row_shows t c remove e =
    let set = set-of (field_c (first c)) (not-false _ (passes remove 12 (places_of t c) e)) in
    (ltb-true _ _ (not-false _ (passes remove 11 (places_of t c) e)), set.0, set.1)
row_shows t c revoke e =
    let known = both-known (domains t) _ _ (passes revoke 10 (places_of t c) e) in
    let set = set-of (field_c (first c)) (not-false _ (passes revoke 12 (places_of t c) e)) in
    (known.0, known.1, set.0, set.1)
row_shows t c stray e = tt
row_shows t c unknown e = tt

-- a call whose decision refuses nothing is its row
shown_by : (t : List ℕ) (c : Call) (d : Decision) → refuses d ≡ false → decide t c ≡ d → Shown t d
unfolding refuses
shown_by t c d serves e =
    let x = refused-exactly t c in
    let none = x.passed (λ n by. true≢false (sym (ap refuses (sym e ∙ by)) ∙ serves)) in
    subst (Shown t) (sym (x.row none) ∙ e) (row_shows t c (call_kind c) none)

pub names-known : EveryCallNamesKnown
unfolding refuses
names-known t c =
    record {
      grant = λ g h r. shown_by t c (grants g h r) refl;
      remove = λ g h r. shown_by t c (removes g h r) refl;
      revoke = λ g h r. shown_by t c (revokes g h r) refl;
    }
