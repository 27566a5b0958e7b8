-- What is reported of who can reach a domain, and for callers that the code and the set are small. Assumes nothing.
use mathlib.Core.Path.{◌≡◌, refl, sym, ◌∙◌}
use mathlib.Core.Bool.{Bool, true, false, and-false}
use mathlib.Core.Logic.{⊎_elim}
use mathlib.Core.List.{List}
use Prim.Native.Nat.{ℕ, ◌^◌, ◌<◌, ◌≤◌}
use native.Mathlib.Omega.{arith}
use borrow.Author.Tests.{ltb-true, lt-ltb, le-ltb, lt-leb}
use lib.Dec.{leb, ltb}
use lib.ListN.{length, get_or}
use Rattle.machine.specs.Below.{all_below}
use Rattle.machine.proofs.Below.{all-at, all_of}
use Rattle.machine.proofs.Bools.{either}
use Rattle.reachability.specs.Closure.{closed}
use Rattle.std.specs.Prelude.{◌↔◌, Result, Ok, Err}
use Rattle.holders.specs.declared.AskRefusal.{AskRefusal}
use Rattle.holders.specs.declared.AskRefusal.TheVariants.{NotAskable}
use Rattle.holders_theory.specs.Asked.{bits_within, askable, ask_code, asked, ReachReported}
use Rattle.holders.specs.Asked.{asked_code}
use Rattle.holders_theory.proofs.Reported.{reports}
pub use Rattle.holders_theory.proofs.Reported.{asked-small}

-- ---- when words can be asked

pub within_is : (ws : List ℕ) (bound : ℕ) (r : Bool) → bound ≡ 2 ^ length ws → (r ≡ true) ↔ ((k : ℕ) → k < length ws → get_or ws k 0 < bound) → r ≡ bits_within ws
unfolding bits_within
within_is ws bound r e h = rw (← e) (go r h)
  where
    go : (r : Bool) → (r ≡ true) ↔ ((k : ℕ) → k < length ws → get_or ws k 0 < bound) → r ≡ all_below (length ws) (λ v. ltb (get_or ws v 0) bound)
    go true h = sym (all_of (length ws) _ (λ k l. lt-ltb _ _ (h.0 refl k l)))
    go false h =
        ⊎_elim (λ all. h.1 (λ k l. ltb-true _ _ (all-at (length ws) _ all k l)) ∙ sym all) (λ none. sym none)
        (either (all_below (length ws) (λ v. ltb (get_or ws v 0) bound)))

module _ (ws : List ℕ) (d : ℕ) where
  pub too_many : 16 < length ws → false ≡ askable ws d
  unfolding askable
  too_many l = rw (lt-leb (length ws) 16 l, and-false (leb 1 (length ws)))

  pub no-domain : length ws ≤ d → false ≡ askable ws d
  unfolding askable
  no-domain l = rw (le-ltb d (length ws) l, and-false)

  -- ---- what is reported

  pub reported-nothing : false ≡ askable ws d → ReachReported ws d 32 0
  unfolding ask_code asked
  reported-nothing h = reports ws d 32 0 (rw (← h)) (rw (← h))

  pub reported : true ≡ askable ws d → (set : ℕ) → set ≡ closed ws (2 ^ d) → ReachReported ws d 0 set
  unfolding ask_code asked
  reported h set e = reports ws d 0 set (rw (← h)) (rw (← h) e)

-- an answer's code is small
pub code-small : (a : Result ℕ AskRefusal) → asked_code a ≤ 32
code-small (Ok set) = omega arith
code-small (Err NotAskable) = omega arith
