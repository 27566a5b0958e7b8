-- The rows of two lines hold by computation; one pair meets the rule's condition, and others show that less is not enough
-- (specs/LineExamples). Assumes nothing.
use mathlib.Core.Path.{◌≡◌, refl, sym, ap, subst}
use mathlib.Core.Bool.{Bool, true, false≢true}
use mathlib.Core.Logic.{⊎_elim}
use mathlib.Core.List.{List, [], ◌∷◌, map}
use Prim.Native.Nat.{ℕ, zero, suc, ◌<◌}
use native.Mathlib.Omega.{arith}
use borrow.Author.Tests.{eqb-true}
use lib.Dec.{eqb}
use lib.ListN.{get_or}
use Rattle.machine.proofs.Everything.{everything}
use Rattle.machine.specs.Below.{all_below}
use Rattle.machine.specs.Table.{domains, endpoints, rights_word, endpoint}
use Rattle.machine.specs.Queue.{name, owner, capacity}
use Rattle.machine.specs.Check.{Accepted}
use Rattle.machine.specs.DomainSet.{member}
use Rattle.machine.specs.Call.{Call, split}
use Rattle.machine.specs.Purge.{rights_of, View}
use Rattle.machine.specs.SameParts.{SamePart, Agree}
use Rattle.machine.specs.PurgeExamples.{bits_of}
use Rattle.machine.proofs.Bools.{or_cases}
use Rattle.machine.proofs.Below.{all-at}
use Rattle.isolation_theory.specs.TwoLines.{TwoLines, AgreeOnSources}
use Rattle.isolation_theory.specs.LineExamples.{seen, EveryLineRow, line_rows, bare_line, busy_line, shared_list, closed_line, open_line, one_send, poor_line, rich_line, give_and_go}
use Rattle.isolation_theory.specs.LineExamples.{ConditionMet, RuleWith, PartsAreNotEnough, OwnPartIsNotEnough, LastTableIsNotEnough}

pub every-line-row : EveryLineRow line_rows
unfolding everything bits_of seen
every-line-row = ((refl, refl), ((refl, refl), ((refl, refl), ((refl, refl), ((refl, refl), tt)))))

-- what holds of 0, 1 and 2 holds of each number below 3
each : (P : ℕ → Type 0) → P 0 → P 1 → P 2 → (i : ℕ) → i < 3 → P i
each P p q r zero l = p
each P p q r (suc zero) l = q
each P p q r (suc (suc zero)) l = r
each P p q r (suc (suc (suc i))) l = absurd (omega arith)

-- the members of a set, one by one
EachOf : (ℕ → Type 0) → List ℕ → Type 0
EachOf P [] = Unit {0}
EachOf P (v ∷ vs) = P v × EachOf P vs

each_of : (P : ℕ → Type 0) (vs : List ℕ) → EachOf P vs → (v : ℕ) → member v vs ≡ true → P v
unfolding member EachOf
each_of P [] ps v m = absurd (false≢true m)
each_of P (w ∷ vs) ps v m =
    ⊎_elim (λ e. subst P (sym (eqb-true v w e)) ps.0) (each_of P vs ps.1 v) (or_cases (eqb v w) (member v vs) m)

-- two lines by computed tests of their endpoints
same_at : (List ℕ → ℕ) → List ℕ → List ℕ → Bool
same_at f s t = all_below (endpoints t) (λ e. eqb (f (endpoint s e)) (f (endpoint t e)))

same_at_lem : (f : List ℕ → ℕ) (s t : List ℕ) → same_at f s t ≡ true → (e : ℕ) → e < endpoints t → f (endpoint s e) ≡ f (endpoint t e)
unfolding same_at
same_at_lem f s t h e l = eqb-true _ _ (all-at _ _ h e l)

lines :
    (s t : List ℕ)
    → Accepted s × Accepted t
    → (domains s ≡ domains t) × (endpoints s ≡ endpoints t)
    → (same_at name s t ≡ true) × (same_at owner s t ≡ true) × (same_at capacity s t ≡ true)
    → TwoLines s t
lines s t accepted counts same =
    record {
      first = accepted.0;
      second = accepted.1;
      same_domains = counts.0;
      same_endpoints = counts.1;
      same_name = same_at_lem name s t same.0;
      same_owner = same_at_lem owner s t same.1;
      same_capacity = same_at_lem capacity s t same.2;
    }

-- a domain that doesn't own the last endpoint has the same queues
agree :
    (v : ℕ)
    → (2 ≡ v → ⊥)
    → rights_of v bare_line ≡ rights_of v busy_line
    → ((u : ℕ) → u < 3 → rights_word bare_line u v ≡ rights_word busy_line u v)
    → Agree v bare_line busy_line
unfolding everything
agree v other held on =
    record {
      part = record { rights = held; queues = each _ (λ _. refl) (λ _. refl) (λ o. absurd (other o)) };
      on_it = on;
    }

sources-met : AgreeOnSources 0 (split shared_list) bare_line busy_line
unfolding everything EachOf
sources-met =
    each_of (λ v. Agree v bare_line busy_line) (1 ∷ 0 ∷ [])
    (agree 1 (λ e. omega arith) refl (each _ refl refl refl), (agree 0 (λ e. omega arith) refl (each _ refl refl refl), tt))

pub condition-met : ConditionMet
unfolding everything same_at
condition-met = (lines bare_line busy_line (refl, refl) (refl, refl) (refl, refl, refl), sources-met)

-- ---- less is not enough

-- the waiting word of the first queue that a view shows, and the rights on domain 2
waits : View → ℕ
waits v = get_or (map (λ q. get_or q.1 0 0) v.queues) 0 0

on_two : View → ℕ
on_two v = get_or v.rights 2 0

same-part : SamePart 0 closed_line open_line
unfolding everything
same-part = record { rights = refl; queues = each _ (λ _. refl) (λ _. refl) (λ _. refl) }

pub parts-are-not-enough : PartsAreNotEnough
unfolding everything EachOf same_at waits
parts-are-not-enough rule =
    let parts = each_of (λ v. SamePart v closed_line open_line) (0 ∷ []) (same-part, tt) in
    let both = lines closed_line open_line (refl, refl) (refl, refl) (refl, refl, refl) in
    let same = rule closed_line open_line (split one_send) 0 both (omega arith) parts in
    let waiting : ◌≡◌ {A = ℕ} 0x5000_0000 0x5000_0001 = ap waits same in
    omega arith

same-zero : Agree 0 poor_line rich_line
unfolding everything
same-zero =
    record {
      part = record { rights = refl; queues = each _ (λ _. refl) (λ _. refl) (λ _. refl) };
      on_it = each _ refl refl refl;
    }

-- domain 0 has a right on 2 in the end, on the second line alone
rights-differ : (condition : ℕ → List Call → List ℕ → List ℕ → Type 0) → condition 0 (split give_and_go) poor_line rich_line → RuleWith condition → ⊥
unfolding everything same_at on_two
rights-differ condition met rule =
    let both = lines poor_line rich_line (refl, refl) (refl, refl) (refl, refl, refl) in
    let same = rule poor_line rich_line (split give_and_go) 0 both (omega arith) met in
    let right : ◌≡◌ {A = ℕ} 0x2000_0000 0x2000_0001 = ap on_two same in
    omega arith

pub own-part-is-not-enough : OwnPartIsNotEnough
own-part-is-not-enough = rights-differ _ same-zero

pub last-table-is-not-enough : LastTableIsNotEnough
unfolding everything EachOf
last-table-is-not-enough = rights-differ _ (each_of (λ v. Agree v poor_line rich_line) (0 ∷ []) (same-zero, tt))
