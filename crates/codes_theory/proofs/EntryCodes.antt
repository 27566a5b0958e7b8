-- What each code of the entry is for (specs/Claims: EntryCodeExactly). Assumes nothing.
use mathlib.Core.Path.{◌≡◌, sym, ◌∙◌}
use mathlib.Core.Logic.{◌⊎◌, ◌⊎◌.inl, ◌⊎◌.inr, ⊎_elim}
use mathlib.Core.List.{List}
use Prim.Native.Nat.{ℕ, ◌*◌, ◌<◌, ◌≤◌}
use native.Mathlib.Decide.{dec_lt, ℕ_discrete}
use native.Mathlib.Omega.{arith}
use lib.ListN.{length}
use Rattle.machine.specs.Table.{domains}
use Rattle.machine.specs.Check.{table_code, Accepted}
use Rattle.machine.specs.Call.{split}
use Rattle.machine.specs.Entry.{entry_code}
use Rattle.machine.proofs.Promise.{code-long, code-table, code-space, code-holders, holders-fit, holders-unfit}
use Rattle.machine.proofs.CallClaims.{table-code}
use Rattle.codes_theory.specs.Claims.{EveryEntryCodeExactly}

module _ (t ws : List ℕ) (size lent : ℕ) where
  -- 6, for the answers or for the holders
  abbrev Unfit : Type 0
  Unfit = (size < 3 * length (split ws)) ⊎ (lent ≡ domains t → ⊥)

  -- the places in their order, each with what its code is
  data Place : Type 0 where
    long : 4096 < length ws → entry_code t ws size lent ≡ 1 → Place
    broken : length ws ≤ 4096 → (Accepted t → ⊥) → entry_code t ws size lent ≡ table_code t → Place
    unfit : length ws ≤ 4096 → Accepted t → Unfit → entry_code t ws size lent ≡ 6 → Place
    fit : length ws ≤ 4096 → Accepted t → 3 * length (split ws) ≤ size → lent ≡ domains t → entry_code t ws size lent ≡ 0 → Place

  too_short : length ws ≤ 4096 → Accepted t → Unfit → entry_code t ws size lent ≡ 6
  too_short s a u = go (dec_lt size (3 * length (split ws))) u
    where
      go : Dec (size < 3 * length (split ws)) → Unfit → entry_code t ws size lent ≡ 6
      go (yes l) _ = code-space t ws size lent s a l
      go (no n) (inl l) = absurd (n l)
      go (no n) (inr other) = code-holders t ws size lent s a (omega arith) ∙ holders-unfit t lent other

  fits : length ws ≤ 4096 → Accepted t → 3 * length (split ws) ≤ size → lent ≡ domains t → entry_code t ws size lent ≡ 0
  fits s a space e = code-holders t ws size lent s a space ∙ holders-fit t lent e

  place : Place
  place = by-list (dec_lt 4096 (length ws))
    where
      by-holders : length ws ≤ 4096 → Accepted t → 3 * length (split ws) ≤ size → Dec (lent ≡ domains t) → Place
      by-holders s a l (yes e) = fit s a l e (fits s a l e)
      by-holders s a l (no n) = unfit s a (inr n) (too_short s a (inr n))

      by-space : length ws ≤ 4096 → Accepted t → Dec (size < 3 * length (split ws)) → Place
      by-space s a (yes l) = unfit s a (inl l) (too_short s a (inl l))
      by-space s a (no n) = by-holders s a (omega arith) (ℕ_discrete lent (domains t))

      by-table : length ws ≤ 4096 → Dec (table_code t ≡ 0) → Place
      by-table s (yes a) = by-space s a (dec_lt size (3 * length (split ws)))
      by-table s (no n) = broken s n (code-table t ws size lent s n)

      by-list : Dec (4096 < length ws) → Place
      by-list (yes l) = long l (code-long t ws size lent l)
      by-list (no n) = by-table (omega arith) (ℕ_discrete (table_code t) 0)

  -- what each code shows
  by-1 : Place → entry_code t ws size lent ≡ 1 → 4096 < length ws
  by-1 (long l _) e = l
  by-1 (broken _ n c) e = absurd (⊎_elim n (λ x. omega (arith, x.0, c, e)) (table-code t))
  by-1 (unfit _ _ _ c) e = absurd (omega (arith, c, e))
  by-1 (fit _ _ _ _ c) e = absurd (omega (arith, c, e))

  by-table-code : (n : ℕ) → 2 ≤ n → n ≤ 5 → Place → entry_code t ws size lent ≡ n → (length ws ≤ 4096) × (table_code t ≡ n)
  by-table-code n least most (long _ c) e = absurd (omega (arith, c, e, least))
  by-table-code n least most (broken s _ c) e = (s, sym c ∙ e)
  by-table-code n least most (unfit _ _ _ c) e = absurd (omega (arith, c, e, most))
  by-table-code n least most (fit _ _ _ _ c) e = absurd (omega (arith, c, e, least))

  by-6 : Place → entry_code t ws size lent ≡ 6 → (length ws ≤ 4096) × Accepted t × Unfit
  by-6 (long _ c) e = absurd (omega (arith, c, e))
  by-6 (broken _ n c) e = absurd (⊎_elim n (λ x. omega (arith, x.1, c, e)) (table-code t))
  by-6 (unfit s a u _) e = (s, a, u)
  by-6 (fit _ _ _ _ c) e = absurd (omega (arith, c, e))

  by-0 : Place → entry_code t ws size lent ≡ 0 → (length ws ≤ 4096) × Accepted t × (3 * length (split ws) ≤ size) × (lent ≡ domains t)
  by-0 (long _ c) e = absurd (omega (arith, c, e))
  by-0 (broken _ n c) e = absurd (n (sym c ∙ e))
  by-0 (unfit _ _ _ c) e = absurd (omega (arith, c, e))
  by-0 (fit s a l h _) e = (s, a, l, h)

pub entry-code-exactly : EveryEntryCodeExactly
entry-code-exactly t ws size lent =
    let found = place t ws size lent in
    record {
      one = (by-1 t ws size lent found, code-long t ws size lent);
      of_table =
          λ n least most. (
            by-table-code t ws size lent n least most found,
            λ x. code-table t ws size lent x.0 (λ a. omega (arith, a, x.1, least)) ∙ x.1,
          );
      six = (by-6 t ws size lent found, λ x. too_short t ws size lent x.0 x.1 x.2);
      runs = (by-0 t ws size lent found, λ x. fits t ws size lent x.0 x.1 x.2 x.3);
    }
