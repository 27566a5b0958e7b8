-- The endpoints of a table, tested one after the other while their names are gathered: what the loops over endpoints keep,
-- and what decides the machine's test. Assumes nothing.
use mathlib.Core.Path.{◌≡◌, refl, sym, ap, ap₂, ◌∙◌}
use mathlib.Core.Bool.{Bool, true, false, not, ◌&&◌}
use mathlib.Core.List.{List}
use Prim.Native.Nat.{ℕ, zero, suc, ◌+◌, ◌-◌, ◌%◌, ◌<◌, ◌≤◌}
use native.Mathlib.Nat.{add-zero, add-sub_cancel_left}
use native.Mathlib.Omega.{arith}
use lib.Dec.{eqb}
use lib.ListN.{get_or, take, drop}
use lib.Seq.{get_or-take, get_or-drop, length-take-le}
use Rattle.machine.specs.Below.{all_below}
use Rattle.machine.specs.Table.{domains, endpoints, endpoint_at, endpoint}
use Rattle.machine.specs.Queue.{name}
use Rattle.machine.specs.Check.{endpoint_ok, name_new, endpoints_ok}
use Rattle.machine.proofs.Below.{all_same, all-fails}
use Rattle.table_check.specs.Names.{new_at, all_different}
use Rattle.table_words.proofs.Scan.{Scanned, scan-end}
use Rattle.table_check.proofs.Fill.{Filled}

and-swap : (a b c d : Bool) → ((a && b) && (c && d)) ≡ ((a && c) && (b && d))
and-swap true true c d = refl
and-swap true false true d = refl
and-swap true false false d = refl
and-swap false b c d = refl

-- a test of two things is the test of each
all_both : (k : ℕ) (p q : ℕ → Bool) → all_below k (λ i. p i && q i) ≡ (all_below k p && all_below k q)
unfolding all_below
all_both zero p q = refl
all_both (suc k) p q =
    ap (λ (b : Bool). b && (p k && q k)) (all_both k p q) ∙ and-swap (all_below k p) (all_below k q) (p k) (q k)

-- What a loop over m endpoints keeps: the words of those passed are valid, and their names are in a list of 32.
pub record Gathered (t : List ℕ) (m : ℕ) (names : List ℕ) (e : ℕ) : Type 0 where
  pub tested : Scanned (λ f. endpoint_ok (domains t) (endpoint t f)) m true e
  pub named : Filled (λ f. name (endpoint t f)) 32 names e

different : (t names : List ℕ) (m e : ℕ) → Filled (λ f. name (endpoint t f)) 32 names e → m ≤ e → m ≤ 32 → all_different (take m names) ≡ all_below m (name_new t)
unfolding all_different new_at name_new
different t names m k g h l =
    rw (length-take-le m names (omega (arith, g.room)))
    (all_same m _ _
    (λ e b. all_same e _ _
    (λ f d. ap₂ (λ (x y : ℕ). not (eqb x y))
    (get_or-take m names f 0 (omega arith) ∙ g.each f (omega arith)) (get_or-take m names e 0 b ∙ g.each e (omega arith)))))

module _ (t : List ℕ) where
  -- the lent part of the table from an endpoint's first word to its last
  pub part : (e : ℕ) → take (endpoint_at (domains t) e + 12 - endpoint_at (domains t) e) (drop (endpoint_at (domains t) e) t) ≡ endpoint t e
  unfolding endpoint
  part e = rw (add-sub_cancel_left (endpoint_at (domains t) e) 12)

  -- its first word has the name
  pub part-name : (e : ℕ) → get_or t (endpoint_at (domains t) e) 0 % 268435456 ≡ name (endpoint t e)
  unfolding name endpoint
  part-name e =
      ap (λ (w : ℕ). w % 268435456)
      (sym (get_or-take 12 (drop (endpoint_at (domains t) e) t) 0 0 (omega arith) ∙ get_or-drop (endpoint_at (domains t) e) t 0 0 ∙ ap (λ (i : ℕ). get_or t i 0) (add-zero _)))

  -- at the loop's end the test of names[0..m] is the machine's test
  pub names-decide : (m : ℕ) (names : List ℕ) (e : ℕ) → m ≡ endpoints t → m ≤ 32 → Gathered t m names e → m ≤ e → all_different (take m names) ≡ endpoints_ok t
  unfolding endpoints_ok
  names-decide m names e all b g l =
      let words : true ≡ all_below (endpoints t) (λ f. endpoint_ok (domains t) (endpoint t f)) = rw all at (scan-end _ m true e g.tested l) in
      rw (different t names m e g.named l b, all)
      (ap (λ (x : Bool). x && all_below (endpoints t) (name_new t)) words
      ∙ sym (all_both (endpoints t) (λ f. endpoint_ok (domains t) (endpoint t f)) (name_new t)))

  -- an endpoint with a wrong word decides by itself
  pub wrong-decides : (m e : ℕ) → m ≡ endpoints t → e < m → endpoint_ok (domains t) (endpoint t e) ≡ false → false ≡ endpoints_ok t
  unfolding endpoints_ok
  wrong-decides m e all l h =
      sym (all-fails (endpoints t) _ e (omega arith) (ap (λ (x : Bool). x && name_new t e) h))
