-- The paper's table of places, gone through from the top, and the nested tests kind by kind give one decision (specs/Machine,
-- specs/Guards).
-- Assumes nothing.
use mathlib.Core.Path.{◌≡◌, refl}
use mathlib.Core.Bool.{cond}
use mathlib.Core.List.{List}
use mathlib.Core.Option.{Option, none, some}
use Prim.Native.Nat.{ℕ}
use Rattle.machine.specs.Word.{kind}
use Rattle.machine.specs.Call.{Call, first, kind_number, one_of, kind_of, call_kind, wants_second, second_payload}
use Rattle.machine.specs.Machine.{Decision.refused, Decision.looked_up, is_none, or_zero, named, places_of, first_refusal, row_of, decide}
use Rattle.machine.specs.Guards.{place, look_up_places, send_places, receive_places, rights_places, grant_places, revoke_places, remove_places, framed, places}
use Rattle.machine.proofs.KindCases.{kind-elim}

found : (o : Option ℕ) → cond (is_none o) (refused 15) (looked_up (or_zero o)) ≡ look_up_places o
unfolding is_none or_zero look_up_places
found none = refl
found (some e) = refl

pub decide-places : (t : List ℕ) (c : Call) → decide t c ≡ places t c (call_kind c)
unfolding decide call_kind places_of first_refusal row_of one_of kind_number places framed place wants_second send_places receive_places rights_places grant_places revoke_places remove_places
decide-places t c =
    kind-elim (kind (first c)) (λ k. kind_of (kind (first c)) ≡ k → decide t c ≡ places t c (call_kind c))
    (λ n e. rw (e, n, found (named t (second_payload c))))
    (λ n e. rw (e, n))
    (λ n e. rw (e, n))
    (λ n e. rw (e, n))
    (λ n e. rw (e, n))
    (λ n e. rw (e, n))
    (λ n e. rw (e, n))
    (λ n e. rw (e, n))
    (λ n e. rw e)
    (λ e. rw e)
    refl
