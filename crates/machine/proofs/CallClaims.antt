-- What a call requires, and by which codes it is refused (specs/CallClaims). Assumes nothing.
use mathlib.Core.Path.{◌≡◌, refl, subst}
use mathlib.Core.Bool.{true, not}
use mathlib.Core.Logic.{◌⊎◌, ◌⊎◌.inl, ◌⊎◌.inr, ⊎_elim}
use mathlib.Core.List.{List}
use Prim.Native.Nat.{ℕ, ◌<◌, ◌≤◌, ◌*◌}
use native.Mathlib.Omega.{arith}
use lib.Dec.{eqb, ltb}
use lib.ListN.{length}
use Rattle.machine.specs.Right.{SEND, GRANT, REMOVE, REVOKE, holds}
use Rattle.machine.specs.Table.{domains, endpoints, rights, endpoint}
use Rattle.machine.specs.Queue.{owner, waiting}
use Rattle.machine.specs.Check.{header_ok, length_ok, rights_ok, endpoints_ok, table_code}
use Rattle.machine.specs.Call.{Call, first, split}
use Rattle.machine.specs.Word.{caller}
use Rattle.machine.specs.Machine.{Decision, may_send, decide}
use Rattle.machine.specs.Machine.{Decision.refused, Decision.looked_up, Decision.sends, Decision.receives, Decision.lists_endpoints, Decision.lists_rights, Decision.grants, Decision.removes, Decision.revokes}
use Rattle.machine.specs.Influence.{influences}
use Rattle.machine.specs.Entry.{longest_list, holders_code, space_code, entry_code}
use Rattle.machine.specs.CallClaims as claims
use Rattle.machine.specs.CallClaims.{OfCaller}
use Rattle.machine.proofs.Bools.{cond-elim}
use Rattle.machine.proofs.Decide.{Known, decide-elim}

-- what a decision shows of the call
abbrev Shown : List ℕ → Call → Decision → Type 0
Shown t c (refused n) = (10 ≤ n) × (n ≤ 23)
Shown t c (looked_up e) = Unit {0}
Shown t c (sends e message) = (e < endpoints t) × OfCaller t c (λ u. holds (rights t u (owner (endpoint t e))) SEND ≡ true)
Shown t c (receives e) = (e < endpoints t) × (1 ≤ waiting (endpoint t e)) × OfCaller t c (λ u. owner (endpoint t e) ≡ u)
Shown t c (lists_endpoints u) = Unit {0}
Shown t c (lists_rights u) = Unit {0}
Shown t c (grants g h r) =
    OfCaller t c (λ u. (holds (rights t u g) GRANT ≡ true) × (holds (rights t u g) r ≡ true) × (influences t u h ≡ true))
Shown t c (removes g h r) =
    OfCaller t c (λ u. (u ≡ h) × (holds (rights t u g) REMOVE ≡ true) × (holds (rights t u g) r ≡ true))
Shown t c (revokes g h r) = OfCaller t c (λ u. (holds (rights t u g) REVOKE ≡ true) × (influences t u h ≡ true))

of-caller : (t : List ℕ) (c : Call) (P : ℕ → Type 0) → Known t c → P (caller (first c)) → OfCaller t c P
of-caller t c P k p = record { u = caller (first c); called_by = k.called_by; known = k.below; may = p }

shown : (t : List ℕ) (c : Call) → Shown t c (decide t c)
unfolding may_send
shown t c =
    decide-elim t c (Shown t c)
    (record {
      refuses = λ n x. (x.least, x.most);
      looks_up = λ _ _ _ _. tt;
      sending = λ k _ l may. (l, of-caller t c _ k may);
      receiving = λ k _ l mine some. (l, omega arith, of-caller t c _ k mine);
      endpoints_listed = λ _ _. tt;
      rights_listed = λ _ _. tt;
      granting = λ k _ _ _ _ may had toward. of-caller t c _ k (may, had, toward);
      removing = λ k _ _ may had. of-caller t c _ k (refl, may, had);
      revoking = λ k _ _ _ may toward. of-caller t c _ k (may, toward);
    })

shown_by : (t : List ℕ) (c : Call) (d : Decision) → decide t c ≡ d → Shown t c d
shown_by t c d e = subst (Shown t c) e (shown t c)

pub requires : claims.EveryCallRequires
requires t c =
    record {
      send = λ e message. shown_by t c (sends e message);
      receive = λ e. shown_by t c (receives e);
      grant = λ g h r. shown_by t c (grants g h r);
      remove = λ g h r. shown_by t c (removes g h r);
      revoke = λ g h r. shown_by t c (revokes g h r);
    }

pub refusal-code : claims.EveryRefusalCode
refusal-code t c n = shown_by t c (refused n)

pub table-code : claims.EveryTableCode
unfolding table_code
table-code t =
    cond-elim Coded (not (header_ok t)) (λ _. inr (omega arith, omega arith))
    (λ _. cond-elim Coded (not (length_ok t)) (λ _. inr (omega arith, omega arith))
    (λ _. cond-elim Coded (not (rights_ok t)) (λ _. inr (omega arith, omega arith))
    (λ _. cond-elim Coded (not (endpoints_ok t)) (λ _. inr (omega arith, omega arith)) (λ _. inl refl))))
  where
    Coded : ℕ → Type 0
    Coded n = (n ≡ 0) ⊎ ((2 ≤ n) × (n ≤ 5))

pub entry-code-most : claims.EveryEntryCode
unfolding entry_code space_code holders_code
entry-code-most t ws size lent =
    cond-elim Small (ltb longest_list (length ws)) (λ _. omega arith)
    (λ _. cond-elim Small (eqb (table_code t) 0)
    (λ _. cond-elim Small (ltb size (3 * length (split ws))) (λ _. omega arith)
    (λ _. cond-elim Small (eqb lent (domains t)) (λ _. omega arith) (λ _. omega arith)))
    (λ _. ⊎_elim (λ e. omega arith) (λ b. omega arith) (table-code t)))
  where
    Small : ℕ → Type 0
    Small n = n ≤ 6
