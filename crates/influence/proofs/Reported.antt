-- What is reported in each case (specs/Reported). Assumes nothing.
use mathlib.Core.Path.{◌≡◌, refl, sym, ap₂, ◌∙◌}
use mathlib.Core.Bool.{Bool, true, false, cond, ◌&&◌, and-false}
use mathlib.Core.Logic.{⊎_elim}
use mathlib.Core.List.{List}
use Prim.Native.Nat.{ℕ, ◌*◌, ◌^◌, ◌<◌, ◌≤◌}
use native.Mathlib.Nat.{lt_of_lt_of_le}
use native.Mathlib.Omega.{arith}
use borrow.Author.Tests.{ltb-true, eqb-true, eqb-false, lt-ltb, le-ltb, eq-eqb, ne_eqb}
use lib.Dec.{eqb, ltb}
use lib.ListN.{length}
use lib.Pow.{pow_mono}
use Rattle.machine.specs.Table.{domains}
use Rattle.machine.specs.Check.{table_code, Accepted}
use Rattle.machine.proofs.Bools.{and_left, either, cond-elim}
use Rattle.machine.proofs.Accepted.{accepted-counts}
use Rattle.reachability.specs.Closure.{closed}
use Rattle.reachability.specs.Chain.{link_words}
use Rattle.reachability.proofs.Bounds.{relation-lt}
use Rattle.potential_theory.specs.Closure.{potential, potential_rights}
use Rattle.potential.specs.Reported as rights
use Rattle.influence_theory.specs.Influence.{could_reach, could_influence}
use Rattle.influence.specs.Reported.{reaches_in, reported_code, reported_set, InfluenceReported, influence_code}
use Rattle.components.specs.declared.DomainRefusal.{DomainRefusal}
use Rattle.components.proofs.Reported.{refusal-small}
use Rattle.std.specs.Prelude.{Result, Ok, Err}

and_none : (a b : Bool) → b ≡ false → (a && b) ≡ false
and_none a b e = rw (e, and-false a)

module _ (t : List ℕ) (s d : ℕ) where
  -- a table that is refused by its code
  pub reported-refused : (code : ℕ) → code ≡ table_code t → (code ≡ 0 → ⊥) → InfluenceReported t s d code 0
  unfolding reported_set reported_code
  reported-refused code e n =
      let bad = ne_eqb (table_code t) 0 (λ none. n (e ∙ none)) in
      record { same_code = rw bad e; same_set = rw (bad, bad) }

  module _ (a : Accepted t) where
    -- an index that is no domain's
    pub reported-none : domains t ≤ d → InfluenceReported t s d 32 0
    unfolding reported_set reported_code
    reported-none l = record { same_code = rw (a, le-ltb d (domains t) l); same_set = rw (a, le-ltb d (domains t) l) }

    -- what the potential rights were reported with, in as many words as they need
    module _
        (n : ℕ)
        (e : n ≡ domains t)
        (l : d < n)
        (space : List ℕ)
        (fits : length space ≡ n * n)
        (code : ℕ)
        (left : List ℕ)
        (p : rights.PotentialReported t s space code left) where
      below : ltb d (domains t) ≡ true
      below = lt-ltb d (domains t) (omega arith)

      sized : eqb (length space) (domains t * domains t) ≡ true
      sized = eq-eqb _ _ (fits ∙ ap₂ ◌*◌ e e)

      code_is : code ≡ cond (ltb s (2 ^ domains t)) 0 32
      unfolding rights.reported_code
      code_is = p.same_code ∙ rw (a, sized)

      -- a set with a bit at or above n
      pub reported-not-domains : (code ≡ 0 → ⊥) → InfluenceReported t s d 32 0
      unfolding reported_set reported_code
      reported-not-domains refused =
          ⊎_elim (λ few. absurd (refused (code_is ∙ rw few)))
          (λ more.
          let none = and_none (ltb d (domains t)) (ltb s (2 ^ domains t)) more in
          record { same_code = rw (a, none); same_set = rw (a, none) })
          (either (ltb s (2 ^ domains t)))

      few : code ≡ 0 → ltb s (2 ^ domains t) ≡ true
      few none = go (ltb s (2 ^ domains t)) (sym code_is ∙ none)
        where
          go : (b : Bool) → ◌≡◌ {A = ℕ} (cond b 0 32) 0 → b ≡ true
          go true h = refl
          go false h = absurd (omega arith)

      left_is : code ≡ 0 → left ≡ potential t s
      unfolding rights.reported_code rights.reported_rights
      left_is none = p.same_rights ∙ rw (a, sized, few none)

      pub reported : code ≡ 0 → (set : ℕ) → set ≡ closed (link_words n (reaches_in n s left)) (2 ^ d) → InfluenceReported t s d 0 set
      unfolding reported_set reported_code could_influence could_reach potential_rights reaches_in
      reported none set made =
          record {
            same_code = rw (a, below, few none);
            same_set =
                rw (a, below, few none)
                (made ∙ ap₂ (λ k m. closed (link_words k (reaches_in k s m)) (2 ^ d)) e (left_is none));
          }

  -- where the code is 0 the table is accepted and d is a domain
  reported-of : reported_code t s d ≡ 0 → Accepted t × (d < domains t)
  unfolding reported_code
  reported-of =
      cond-elim (λ n. n ≡ 0 → Accepted t × (d < domains t)) (eqb (table_code t) 0)
      (λ a.
      cond-elim (λ n. n ≡ 0 → Accepted t × (d < domains t)) (ltb d (domains t) && ltb s (2 ^ domains t))
      (λ l _. (eqb-true _ _ a, ltb-true _ _ (and_left (ltb d (domains t)) _ l)))
      (λ _ h. absurd (omega arith)))
      (λ n h. absurd (eqb-false _ _ n h))

  -- the set is bits below sixteen
  pub set-small : reported_set t s d < 65536
  unfolding reported_set could_influence
  set-small =
      cond-elim (λ n. n < 65536) (eqb (reported_code t s d) 0)
      (λ e.
      let (a, l) = reported-of (eqb-true _ _ e) in
      lt_of_lt_of_le (relation-lt (domains t) (could_reach t s) d l) (pow_mono (accepted-counts t a).1))
      (λ _. omega arith)

-- an answer's code is small
pub code-small : (a : Result ℕ DomainRefusal) → influence_code a ≤ 32
code-small (Ok set) = omega arith
code-small (Err r) = refusal-small r
