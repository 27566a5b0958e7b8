-- What is reported in each case (specs/Reported), and that each refusal has a code. Assumes nothing.
use mathlib.Core.Path.{◌≡◌, sym, ap, ap₂, subst, ◌∙◌}
use mathlib.Core.Bool.{true}
use mathlib.Core.List.{List}
use Prim.Native.Nat.{ℕ, ◌*◌, ◌^◌, ◌<◌, ◌≤◌}
use native.Mathlib.Omega.{arith}
use borrow.Author.Tests.{lt-ltb, le-ltb, eq-eqb, ne_eqb}
use lib.Dec.{eqb}
use lib.ListN.{length}
use Rattle.machine.specs.Table.{domains}
use Rattle.machine.specs.Check.{table_code, Accepted}
use Rattle.potential_theory.specs.Closure.{matrix_of, settled, enough, potential}
use Rattle.table_check.proofs.Refusals.{refusal-code as table-refusal}
use Rattle.potential.specs.declared.PotentialRefusal.{PotentialRefusal}
use Rattle.potential.specs.declared.PotentialRefusal.TheVariants.{BadTable, OtherSpace, NotDomains}
use Rattle.potential.specs.Reported.{potential_refusal_code, reported_code, reported_rights, PotentialReported}

module _ (t : List ℕ) (s : ℕ) (space : List ℕ) where
  -- a table that is refused by its code
  pub reported-refused : (code : ℕ) → code ≡ table_code t → (code ≡ 0 → ⊥) → PotentialReported t s space code space
  unfolding reported_code reported_rights
  reported-refused code e n =
      let bad = ne_eqb (table_code t) 0 (λ none. n (e ∙ none)) in
      record { same_code = rw bad e; same_rights = rw (bad, bad) }

  module _ (a : Accepted t) (n : ℕ) (e : n ≡ domains t) where
    -- other than n × n words
    pub reported-space : (length space ≡ n * n → ⊥) → PotentialReported t s space 6 space
    unfolding reported_code reported_rights
    reported-space other =
        let differs = ne_eqb (length space) (domains t * domains t) (λ same. other (same ∙ sym (ap₂ ◌*◌ e e))) in
        record { same_code = rw (a, differs); same_rights = rw (a, differs) }

    module _ (fits : length space ≡ n * n) (sets : ℕ) (all : sets ≡ 2 ^ n) where
      same : eqb (length space) (domains t * domains t) ≡ true
      same = eq-eqb _ _ (fits ∙ ap₂ ◌*◌ e e)

      -- a set with a bit at or above n
      pub reported-not-domains : sets ≤ s → PotentialReported t s space 32 space
      unfolding reported_code reported_rights
      reported-not-domains l =
          let more = le-ltb s (2 ^ domains t) (subst (λ k. k ≤ s) (all ∙ ap (2 ^◌) e) l) in
          record { same_code = rw (a, same, more); same_rights = rw (a, same, more) }

      pub reported : s < sets → (filled left : List ℕ) → filled ≡ matrix_of t → left ≡ settled (enough n) n s filled → PotentialReported t s space 0 left
      unfolding reported_code reported_rights potential
      reported l filled left start made =
          let few = lt-ltb s (2 ^ domains t) (subst (λ k. s < k) (all ∙ ap (2 ^◌) e) l) in
          record {
            same_code = rw (a, same, few);
            same_rights = rw (a, same, few) (made ∙ ap₂ (λ k m. settled (enough k) k s m) e start);
          }

-- a refusal has a code
pub refusal-code : (r : PotentialRefusal) → potential_refusal_code r ≡ 0 → ⊥
refusal-code (BadTable r) e = table-refusal r e
refusal-code OtherSpace e = omega arith
refusal-code NotDomains e = omega arith
