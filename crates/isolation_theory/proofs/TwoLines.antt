-- The isolation rule between two lines (specs/TwoLines), as a case of the unwinding theorem in which nothing is purged, and of
-- the equality of the sources. What is new is that accepted tables with equal names, owners and capacities have equal words
-- there. Assumes nothing.
use mathlib.Core.Path.{◌≡◌, refl, sym, ap, ap₂, subst, subst₂, ◌∙◌}
use mathlib.Core.Bool.{true, ◌&&◌}
use mathlib.Core.List.{List, [], ◌++◌, append-nil}
use Prim.Native.Nat.{ℕ, zero, suc, ◌+◌, ◌*◌, ◌<◌}
use native.Mathlib.Omega.{arith}
use borrow.Author.Tests.{eqb-true}
use lib.Dec.{eqb, leb, ltb}
use lib.ListN.{length, get_or, take}
use lib.Seq.{get_or-take, ext_get_or, length-take-le}
use Rattle.machine.specs.Word.{kind, payload, word, upper, field_b, field_c}
use Rattle.machine.specs.Table.{domains, endpoints, length_for, endpoint}
use Rattle.machine.specs.Queue.{name, owner, capacity}
use Rattle.machine.specs.Check.{name_word_ok, info_word_ok, identity_ok, queue_ok, endpoint_ok}
use Rattle.machine.specs.Call.{Call, split}
use Rattle.machine.specs.Run as machine
use Rattle.machine.specs.DomainSet.{member}
use Rattle.machine.specs.Purge.{sources, answers_of, view}
use Rattle.machine.specs.SameParts.{SameFrame, Agree}
use Rattle.unwinding.specs.Unwinding as unwinding
use Rattle.machine.proofs.Bools.{and_left, and_right}
use Rattle.machine.proofs.Accepted.{accepted-sized, accepted-endpoint}
use Rattle.machine.proofs.Table.{endpoint-length}
use Rattle.unwinding.proofs.Unwinding.{nonleakage, same-sources}
use Rattle.machine.proofs.Purge.{tables, outputs-is, sources-is, observed}
use Rattle.machine.proofs.Noninterference.{Alike, conditions, same_view}
use Rattle.isolation_theory.specs.TwoLines.{TwoLines, AgreeOnSources, IsolationBetweenLines, IsolationBetweenRuns}
use Rattle.isolation_theory.proofs.Ran.{ran-table, ran-answers}

-- a name word and an info word by their fields
name_of : (w : ℕ) → kind w ≡ 3 → w ≡ word 3 (payload w)
name_of w k = omega arith

info-of : (w : ℕ) → kind w ≡ 4 → upper w ≡ 0 → w ≡ word 4 (256 * field_b w + field_c w)
info-of w k u = omega arith

-- two endpoints of twelve words with the same name word and the same info word
same-identity :
    (p q : List ℕ)
    → length p ≡ 12
    → length q ≡ 12
    → get_or p 0 0 ≡ get_or q 0 0
    → get_or p 1 0 ≡ get_or q 1 0
    → take 2 p ≡ take 2 q
same-identity p q lp lq e f =
    let two : length (take 2 p) ≡ 2 = length-take-le 2 p (omega arith) in
    ext_get_or 0 (take 2 p) (take 2 q) (two ∙ sym (length-take-le 2 q (omega arith)))
    (λ i l. get_or-take 2 p i 0 (omega arith) ∙ word_at i (omega arith) ∙ sym (get_or-take 2 q i 0 (omega arith)))
  where
    word_at : (i : ℕ) → i < 2 → get_or p i 0 ≡ get_or q i 0
    word_at zero l = e
    word_at (suc zero) l = f
    word_at (suc (suc i)) l = absurd (omega arith)

-- a sound endpoint, among n domains: its name word and its info word by its name, owner and capacity
module _ (n : ℕ) (q : List ℕ) (ok : endpoint_ok n q ≡ true) where
  identity : identity_ok n q ≡ true
  unfolding endpoint_ok
  identity = and_left (identity_ok n q) (queue_ok q) ok

  name-word : get_or q 0 0 ≡ word 3 (name q)
  unfolding identity_ok name_word_ok name
  name-word =
      let w = get_or q 0 0 in
      name_of w (eqb-true _ _ (and_left (eqb (kind w) 3) _ (and_left (name_word_ok w) _ identity)))

  info-word : get_or q 1 0 ≡ word 4 (256 * owner q + capacity q)
  unfolding identity_ok info_word_ok owner capacity
  info-word =
      let w = get_or q 1 0 in
      let i4 = and_right (name_word_ok (get_or q 0 0)) _ identity in
      let i3 = and_left (eqb (kind w) 4 && eqb (upper w) 0 && ltb (field_b w) n && leb 1 (field_c w)) (leb (field_c w) 8) i4 in
      let i2 = and_left (eqb (kind w) 4 && eqb (upper w) 0 && ltb (field_b w) n) (leb 1 (field_c w)) i3 in
      let i1 = and_left (eqb (kind w) 4 && eqb (upper w) 0) (ltb (field_b w) n) i2 in
      info-of w (eqb-true _ _ (and_left (eqb (kind w) 4) _ i1)) (eqb-true _ _ (and_right (eqb (kind w) 4) _ i1))

-- two lines have the same unchanging parts
same-frame : (s t : List ℕ) → TwoLines s t → SameFrame s t
same-frame s t l =
    record {
      size = accepted-sized s l.first ∙ ap₂ length_for l.same_domains l.same_endpoints ∙ sym (accepted-sized t l.second);
      same_domains = l.same_domains;
      same_endpoints = l.same_endpoints;
      identity =
          λ e b.
          let b' : e < endpoints s = subst (λ m. e < m) (sym l.same_endpoints) b in
          let ok_s = accepted-endpoint s l.first e b' in
          let ok_t = accepted-endpoint t l.second e b in
          same-identity (endpoint s e) (endpoint t e)
          (endpoint-length s (accepted-sized s l.first) e b')
          (endpoint-length t (accepted-sized t l.second) e b)
          (name-word _ _ ok_s ∙ ap (word 3) (l.same_name e b) ∙ sym (name-word _ _ ok_t))
          (info-word _ _ ok_s
          ∙ ap₂ (λ o c. word 4 (256 * o + c)) (l.same_owner e b) (l.same_capacity e b)
          ∙ sym (info-word _ _ ok_t));
    }

-- words after the answers, as in a larger answer space, are no domain's
answers-alone :
    (d : ℕ) (t : List ℕ) (cs : List Call) (ws : List ℕ)
    → answers_of d cs (machine.answers t cs ++ ws) ≡ answers_of d cs (machine.answers t cs)
answers-alone d t cs ws =
    sym (outputs-is 0 d t cs ws) ∙ outputs-is 0 d t cs [] ∙ ap (answers_of d cs) (append-nil (machine.answers t cs))

-- ---- the isolation rule

module _ (s t : List ℕ) (cs : List Call) (d : ℕ) (l : TwoLines s t) (b : d < domains s) (a : AgreeOnSources d cs s t) where
  -- s and t look the same to every source
  same-for-sources : unwinding.SameForSources (tables (domains t)) (Alike (domains t)) Agree d s cs t
  same-for-sources =
      record {
        domain = subst (λ n. d < n) l.same_domains b;
        proper = record { first = l.first; second = l.second; frame = same-frame s t l; count = refl };
        each = λ v m. a v (subst (λ vs. member v vs ≡ true) (sources-is (domains t) s cs d) m);
      }

  same_seen :
      (ws vs : List ℕ)
      → view d cs (machine.answers s cs ++ ws) (machine.run s cs) ≡ view d cs (machine.answers t cs ++ vs) (machine.run t cs)
  same_seen ws vs =
      let seen = observed (nonleakage (conditions (domains t)) d s t cs same-for-sources) in
      same_view seen.proper seen.state cs cs (machine.answers s cs ++ ws) (machine.answers t cs ++ vs)
      (seen.answered ws ∙ sym (answers-alone d t cs vs))

  same_set : sources s cs d ≡ sources t cs d
  same_set =
      sym (sources-is (domains t) s cs d)
      ∙ same-sources (conditions (domains t)) d s t cs same-for-sources
      ∙ sources-is (domains t) t cs d

pub between-lines : IsolationBetweenLines
between-lines s t cs d l b a =
    record {
      seen =
          subst₂ (λ x y. view d cs x (machine.run s cs) ≡ view d cs y (machine.run t cs))
          (append-nil (machine.answers s cs))
          (append-nil (machine.answers t cs))
          (same_seen s t cs d l b a [] []);
      set = same_set s t cs d l b a;
    }

pub between-runs : IsolationBetweenRuns
between-runs s t ws p q d l b a =
    let seen : view d (split ws) p.answers p.end ≡ view d (split ws) q.answers q.end =
    rw (ran-answers s ws p, ran-table s ws p, ran-answers t ws q, ran-table t ws q) (same_seen s t (split ws) d l b a _ _) in
    (seen, same_set s t (split ws) d l b a)
