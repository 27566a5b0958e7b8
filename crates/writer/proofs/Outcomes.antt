-- The result of writing, by what the code finds: each result is the one that is due (writer_theory: specs/Write).
-- Assumes nothing.
use Prim.Native.Nat.{ℕ, ◌≤◌}
use mathlib.Core.Path.{◌≡◌, refl, ap, ap₂, ◌∙◌}
use mathlib.Core.Bool.{true, false, ◌||◌}
use mathlib.Core.List.{List, ◌++◌}
use mathlib.Core.Option.{Option, none, some}
use native.Mathlib.Omega.{arith}
use borrow.Author.Tests.{ltb-false}
use lib.Dec.{ltb}
use lib.ListN.{length, drop}
use Rattle.machine.specs.Entry.{longest_list}
use Rattle.machine.proofs.Bools.{or-none-right}
use Rattle.calls.specs.declared.Call.{Call}
use Rattle.writer_theory.specs.Words.{all_fit, written}
use Rattle.std.specs.Prelude.{Ok, Err}
use Rattle.writer.specs.declared.WriteRefusal.{WriteRefusal}
use Rattle.writer.specs.declared.WriteRefusal.TheVariants.{BadCall}
use Rattle.writer.specs.Answer.{answered}
use Rattle.writer_theory.specs.Write.{first_unfit, too_long, WriteOutcome, refusal, words_put, writing}
use Rattle.writer.specs.FirstPass.{found, measured}
use Rattle.writer_theory.proofs.ListClaims.{none-unfit}

-- an outcome with code 0
abbrev put : ℕ → List ℕ → WriteOutcome
put n ws = record { code = 0; number = n; list = ws }

-- the cases of what was found
found-unfit : (o : Option ℕ) (words i : ℕ) → Err (BadCall i) ≡ found o words → o ≡ some i
found-unfit none words i e = let z : ◌≡◌ {A = ℕ} 0 1 = cc in absurd (omega arith)
found-unfit (some j) words i e = cc

found_none : (o : Option ℕ) (words w : ℕ) → Ok w ≡ found o words → (o ≡ none) × (w ≡ words)
found_none none words w e = (refl, cc)
found_none (some j) words w e = let z : ◌≡◌ {A = ℕ} 0 1 = cc in absurd (omega arith)

module _ (cs : List Call) (count : ℕ) (list : List ℕ) where
  -- a call that can't be written
  first-unfit : (i : ℕ) → first_unfit cs ≡ some i → refusal 30 i list ≡ writing cs count list
  unfolding writing
  first-unfit i first = rw first

  -- too many calls or words
  refused-long : first_unfit cs ≡ none → too_long count (length (written cs)) (length list) ≡ true → refusal 31 0 list ≡ writing cs count list
  unfolding writing words_put
  refused-long first long = rw (first, long)

  -- ---- by what the first pass found
  pub unfit : (i : ℕ) → Err (BadCall i) ≡ measured cs → refusal 30 i list ≡ writing cs count list
  unfolding measured
  unfit i e = first-unfit i (found-unfit (first_unfit cs) _ i e)

  module _ (words : ℕ) (e : Ok words ≡ measured cs) where
    none_found : (first_unfit cs ≡ none) × (words ≡ length (written cs))
    unfolding measured
    none_found = found_none (first_unfit cs) _ words e

    -- all calls fit
    pub all-fit : all_fit cs ≡ true
    unfolding first_unfit
    all-fit = none-unfit 0 cs none_found.0

    pub words-counted : words ≡ length (written cs)
    words-counted = none_found.1

    pub too_long_lem : too_long count words (length list) ≡ true → refusal 31 0 list ≡ writing cs count list
    too_long_lem h = refused-long none_found.0 (rw (← words-counted) h)

    module _ (h : too_long count words (length list) ≡ false) where
      -- there is space for the words
      pub room : length (written cs) ≤ length list
      unfolding too_long
      room =
          rw (← words-counted)
          (ltb-false (length list) words (or-none-right (ltb longest_list count || ltb longest_list words) (ltb (length list) words) h))

      pub done : (end : List ℕ) → end ≡ written cs ++ drop (length (written cs)) list
          → put words end ≡ writing cs count list
      unfolding writing words_put
      done end wrote =
          let first = none_found.0 in
          let short : too_long count (length (written cs)) (length list) ≡ false = rw (← words-counted) h in
          rw (first, short) (ap₂ (λ (n : ℕ) (ws : List ℕ). put n ws) words-counted wrote)

-- a refusal of the first pass is that of a call that can't be written
found-refused : (o : Option ℕ) (words : ℕ) (r : WriteRefusal) → Err r ≡ found o words → (i : ℕ) × (r ≡ BadCall i) × (o ≡ some i)
found-refused none words r e = absurd (cc)
found-refused (some i) words r e = (i, cc, refl)

pub refused : (cs : List Call) (count : ℕ) (list : List ℕ) (r : WriteRefusal) → Err r ≡ measured cs → answered (Err r) list ≡ writing cs count list
unfolding measured
refused cs count list r e =
    let bad = found-refused (first_unfit cs) (length (written cs)) r e in
    ap (λ (x : WriteRefusal). answered (Err x) list) bad.1 ∙ first-unfit cs count list bad.0 bad.2
