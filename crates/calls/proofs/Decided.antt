-- To decide on a call is to decode it and then to decide on the decoded call.
-- Assumes nothing.
use Prim.Native.Nat.{ℕ}
use mathlib.Core.Path.{◌≡◌, refl, sym}
use mathlib.Core.Bool.{Bool, true, false, cond, not, ◌&&◌, ◌||◌}
use mathlib.Core.List.{List}
use lib.Dec.{eqb}
use Rattle.std.specs.Prelude.{Option}
use Rattle.machine.specs.Word.{kind, caller}
use Rattle.machine.specs.Call.{Kind, call_kind, kind_of, all_zero, unused_fields, wants_second, has_second}
use Rattle.machine.specs.Call.{Kind.look_up, Kind.send, Kind.receive, Kind.my_endpoints, Kind.my_rights, Kind.grant, Kind.remove, Kind.revoke, Kind.stray, Kind.unknown}
use Rattle.machine.specs.Machine.{Decision, Decision.refused, decide}
use Rattle.machine.specs.Guards.{place, framed, places}
use Rattle.machine.proofs.Places.{decide-places}
use Rattle.calls.specs.Decode.{needs_second, whole, of_kind, decoded}
use Rattle.calls.specs.Split.{call_of}
use Rattle.calls.specs.Decide.{known_caller, refused_call, decide_call}
use Rattle.calls.specs.declared.Call.{Call}
use Rattle.calls.specs.declared.Call.TheVariants.{Refused}
use Rattle.calls.specs.declared.Refusal.TheVariants.{UnusedField, NoSecondWord}
use Rattle.calls.proofs.SplitAt.{first_of}

-- a kind of call wants a second word exactly if a word of that kind does
wants-second : (n : ℕ) → wants_second n ≡ needs_second (kind_of n)
unfolding wants_second needs_second kind_of
wants-second n = go (eqb n 1) (eqb n 2) (eqb n 3) (eqb n 4) (eqb n 5) (eqb n 6) (eqb n 7) (eqb n 8) (eqb n 15)
  where
    go :
        (b1 b2 b3 b4 b5 b6 b7 b8 b15 : Bool)
        → (b1 || b2)
        ≡ needs_second
        (cond b1 look_up
        (cond b2 send
        (cond b3 receive
        (cond b4 my_endpoints
        (cond b5 my_rights (cond b6 grant (cond b7 remove (cond b8 revoke (cond b15 stray unknown)))))))))
    go true b2 b3 b4 b5 b6 b7 b8 b15 = refl
    go false true b3 b4 b5 b6 b7 b8 b15 = refl
    go false false true b4 b5 b6 b7 b8 b15 = refl
    go false false false true b5 b6 b7 b8 b15 = refl
    go false false false false true b6 b7 b8 b15 = refl
    go false false false false false true b7 b8 b15 = refl
    go false false false false false false true b8 b15 = refl
    go false false false false false false false true b15 = refl
    go false false false false false false false false true = refl
    go false false false false false false false false false = refl

module _ (t : List ℕ) (w : ℕ) (s : Option ℕ) where
  -- 12 comes before 13 and 14, whatever these two find
  framed-whole : (k : Kind) (next : Decision) (call : Call)
      → wants_second (kind w) ≡ needs_second k
      → decide_call t call ≡ known_caller t (caller w) next
      → framed t (call_of w s) k next ≡ decide_call t (whole w s k call)
  unfolding framed place whole known_caller decide_call refused_call
  framed-whole k next call wants h =
      rw (first_of w s, wants)
      (go (not (all_zero (unused_fields k w))) (needs_second k && not (has_second (call_of w s))))
    where
      u : ℕ
      u = caller w

      go :
          (unused lacking : Bool)
          → known_caller t u (cond unused (refused 13) (cond lacking (refused 14) next))
          ≡ decide_call t (cond unused (Refused u UnusedField) (cond lacking (Refused u NoSecondWord) call))
      go true lacking = refl
      go false true = refl
      go false false = sym h

  by_kind : (k : Kind) → wants_second (kind w) ≡ needs_second k → places t (call_of w s) k ≡ decide_call t (of_kind w s k)
  unfolding places of_kind decide_call refused_call
  by_kind stray wants = refl
  by_kind unknown wants = refl
  by_kind look_up wants = framed-whole look_up _ _ wants refl
  by_kind send wants = rw (first_of w s) (framed-whole send _ _ wants refl)
  by_kind receive wants = rw (first_of w s) (framed-whole receive _ _ wants refl)
  by_kind my_endpoints wants = rw (first_of w s) (framed-whole my_endpoints _ _ wants refl)
  by_kind my_rights wants = rw (first_of w s) (framed-whole my_rights _ _ wants refl)
  by_kind grant wants = rw (first_of w s) (framed-whole grant _ _ wants refl)
  by_kind remove wants = rw (first_of w s) (framed-whole remove _ _ wants refl)
  by_kind revoke wants = rw (first_of w s) (framed-whole revoke _ _ wants refl)

pub decided : (t : List ℕ) (w : ℕ) (s : Option ℕ) → decide t (call_of w s) ≡ decide_call t (decoded w s)
unfolding call_kind decoded
decided t w s = rw (decide-places t (call_of w s), first_of w s) (by_kind t w s (kind_of (kind w)) (wants-second (kind w)))
