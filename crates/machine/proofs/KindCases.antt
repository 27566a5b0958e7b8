-- A kind by cases.
-- Assumes nothing.
use mathlib.Core.Path.{◌≡◌}
use Prim.Native.Nat.{ℕ}
use borrow.Author.Tests.{eqb-true}
use lib.Dec.{eqb}
use Rattle.machine.specs.Call.{Kind, kind_of}
use Rattle.machine.specs.Call.{Kind.look_up, Kind.send, Kind.receive, Kind.my_endpoints, Kind.my_rights, Kind.grant, Kind.remove, Kind.revoke, Kind.stray, Kind.unknown}
use Rattle.machine.proofs.Bools.{cond-elim}

-- a kind is that of one of the eight calls, of a stray, or unknown
pub kind-elim : (k : ℕ) (P : Kind → Type 0) → (k ≡ 1 → P look_up) → (k ≡ 2 → P send) → (k ≡ 3 → P receive) → (k ≡ 4 → P my_endpoints) → (k ≡ 5 → P my_rights) → (k ≡ 6 → P grant) → (k ≡ 7 → P remove) → (k ≡ 8 → P revoke) → (k ≡ 15 → P stray) → P unknown → P (kind_of k)
unfolding kind_of
kind-elim k P f1 f2 f3 f4 f5 f6 f7 f8 f15 f =
    cond-elim P (eqb k 1) (λ e. f1 (eqb-true k 1 e))
    (λ _. cond-elim P (eqb k 2) (λ e. f2 (eqb-true k 2 e))
    (λ _. cond-elim P (eqb k 3) (λ e. f3 (eqb-true k 3 e))
    (λ _. cond-elim P (eqb k 4) (λ e. f4 (eqb-true k 4 e))
    (λ _. cond-elim P (eqb k 5) (λ e. f5 (eqb-true k 5 e))
    (λ _. cond-elim P (eqb k 6) (λ e. f6 (eqb-true k 6 e))
    (λ _. cond-elim P (eqb k 7) (λ e. f7 (eqb-true k 7 e))
    (λ _. cond-elim P (eqb k 8) (λ e. f8 (eqb-true k 8 e))
    (λ _. cond-elim P (eqb k 15) (λ e. f15 (eqb-true k 15 e)) (λ _. f)))))))))
