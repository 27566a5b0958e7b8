-- Names and their flags: each name that was passed has set its flag (specs/Names), so a name whose flag isn't set differs
-- from all of them. Assumes nothing.
use mathlib.Core.Path.{◌≡◌, sym, ap, ◌∙◌}
use mathlib.Core.Bool.{true, not}
use mathlib.Core.List.{List}
use Prim.Native.Nat.{ℕ, ◌+◌, ◌<◌}
use native.Mathlib.Decide.{ℕ_discrete}
use native.Mathlib.Omega.{arith}
use borrow.Author.Count.{below_none, below_more}
use borrow.Author.Tests.{ne_eqb}
use lib.Dec.{eqb}
use lib.ListN.{length, get_or, set, length-set}
use lib.Seq.{get_or-set_same, get_or-set_other}
use Rattle.machine.proofs.Below.{all_of}
use Rattle.table_check.specs.Names.{new_at, flag_of, Flagged}

-- a name whose flag isn't set
pub flag_unset : (names flags : List ℕ) (e : ℕ) → Flagged names flags e → get_or flags (flag_of (get_or names e 0)) 0 ≡ 0 → true ≡ new_at names e
unfolding new_at
flag_unset names flags e s h = sym (all_of e _ differs)
  where
    differs : (f : ℕ) → f < e → not (eqb (get_or names f 0) (get_or names e 0)) ≡ true
    differs f l =
        ap not
        (ne_eqb (get_or names f 0) (get_or names e 0)
        (λ same. let z : ◌≡◌ {A = ℕ} 1 0 = sym (s.set f l) ∙ ap (λ (x : ℕ). get_or flags (flag_of x) 0) same ∙ h in omega arith))

-- a flag that is set stays so, whichever is set next
stays : (flags : List ℕ) (i j : ℕ) → i < length flags → get_or flags j 0 ≡ 1 → get_or (set flags i 1) j 0 ≡ 1
stays flags i j l h = go (ℕ_discrete j i)
  where
    go : Dec (j ≡ i) → get_or (set flags i 1) j 0 ≡ 1
    go (yes e) = rw e (get_or-set_same flags i 1 0 l)
    go (no n) = get_or-set_other flags i j 1 0 n ∙ h

pub flag-start : (names flags : List ℕ) → length flags ≡ 512 → Flagged names flags 0
flag-start names flags r = record { room = r; set = below_none _ }

-- the flag of one name more
pub flag-next : (names flags : List ℕ) (e i : ℕ) → Flagged names flags e → i ≡ flag_of (get_or names e 0) → Flagged names (set flags i 1) (e + 1)
flag-next names flags e i s is =
    let l : i < length flags = omega (arith, s.room) in
    record {
      room = length-set flags i 1 ∙ s.room;
      set = below_more _ e (λ f b. stays flags i _ l (s.set f b)) (rw (sym is) (get_or-set_same flags i 1 0 l));
    }
