-- Each shortcut of document 01 breaks a rule (specs/Shortcuts): a table and a list on which it does. Assumes nothing.
use mathlib.Core.Path.{◌≡◌, refl, sym, ap, ◌∙◌}
use mathlib.Core.Bool.{Bool, true, false, cond, ◌&&◌, true≢false}
use mathlib.Core.List.{List, [], ◌∷◌}
use mathlib.Core.Option.{Option, none, some}
use Prim.Native.Nat.{ℕ}
use native.Mathlib.Omega.{arith}
use borrow.Author.Tests.{eqb-true, eq-eqb}
use lib.Dec.{eqb, ltb}
use lib.ListN.{length, get_or}
use Rattle.machine.specs.Table.{domains}
use Rattle.machine.specs.Call.{Call, caller_of, split, width}
use Rattle.machine.specs.Machine.{answer_word}
use Rattle.machine.specs.DomainSet.{member, caller_in, called_by}
use Rattle.machine.specs.Purge.{reaches_any, joined_by, answers_of, View, view}
use Rattle.machine.specs.Examples.{T}
use Rattle.machine.specs.CodeExamples.{four_domains}
use Rattle.machine.specs.PurgeExamples.{sources_in, kept_in, may_go}
use Rattle.machine.specs.Shortcuts.{answers_by, answer_showing_full, split_giving_up, refusing_held, answer_refusing_held, ShowingFullFails, GivingUpFails, RefusingHeldFails, all_refused, RefusingAllPasses, RefusingAllDiffers}
use Rattle.machine.proofs.Everything.{everything}
use Rattle.machine.proofs.Bools.{or_right, cond-elim}

-- 1 sends to 0, which takes the message out, and 1 sends again: 0's call, which is purged for 1, shows in 1's second answer
pub showing-full-fails : ShowingFullFails
unfolding everything answers_by answer_showing_full
showing-full-fails rule =
    let ws : List ℕ = 0x2040_0000 ∷ 0xF000_0007 ∷ 0x3000_0000 ∷ 0x2040_0000 ∷ 0xF000_0008 ∷ [] in
    let shown : ◌≡◌ {A = ℕ} 0 1 = ap (λ (v : View). get_or v.answers 4 0) (rule may_go (split ws) 1 refl (omega arith)) in
    omega arith

-- a send by 0 to 2 is one call where 0 has SEND on 2, and two where it hasn't
pub giving-up-fails : GivingUpFails
unfolding everything split_giving_up width
giving-up-fails rule =
    let calls : ◌≡◌ {A = ℕ} 1 2 = ap length (rule T (0x2000_0100 ∷ 0xF000_0005 ∷ []) 0 2 1 refl refl) in
    omega arith

-- 2 gives up SEND on 1, which 0 then grants to it: 2's call, which is purged for 0, shows in 0's answer
pub refusing-held-fails : RefusingHeldFails
unfolding everything answers_by refusing_held answer_refusing_held
refusing-held-fails rule =
    let ws : List ℕ = 0x7081_0001 ∷ 0x6001_0201 ∷ [] in
    let shown : ◌≡◌ {A = ℕ} 0x6000_0000 0x6000_0016 = ap (λ (v : View). get_or v.answers 0 0) (rule four_domains (split ws) 0 refl (omega arith)) in
    omega arith

-- ---- a kernel that refuses every call

-- d is in its own source set, and so is the caller of each call of d
module _ (t : List ℕ) (d : ℕ) where
  joined : (o : Option ℕ) (vs : List ℕ) → member d vs ≡ true → member d (joined_by t o vs) ≡ true
  unfolding joined_by member
  joined none vs m = m
  joined (some u) vs m =
      cond-elim (λ (s : List ℕ). member d s ≡ true) (ltb u (domains t) && reaches_any t u vs)
      (λ _. or_right (eqb d u) (member d vs) m)
      (λ _. m)

  own : (cs : List Call) → member d (sources_in t cs d) ≡ true
  unfolding sources_in member
  own [] = rw (eq-eqb d d refl)
  own (c ∷ cs) = joined (caller_of c) (sources_in t cs d) (own cs)

  called-in : (o : Option ℕ) (vs : List ℕ) → member d vs ≡ true → called_by d o ≡ true → caller_in o vs ≡ true
  unfolding caller_in called_by
  called-in none vs m b = b
  called-in (some u) vs m b = rw (eqb-true u d b) m

  -- d's answers are those to the kept calls
  kept-answers : (cs : List Call) → answers_of d cs (all_refused cs) ≡ answers_of d (kept_in t cs d) (all_refused (kept_in t cs d))
  unfolding answers_of all_refused kept_in
  kept-answers [] = refl
  kept-answers (c ∷ cs) =
      go (called_by d (caller_of c)) refl (caller_in (caller_of c) (sources_in t (c ∷ cs) d)) refl (kept-answers cs)
    where
      kept : List Call
      kept = kept_in t cs d

      go :
          (b : Bool) → called_by d (caller_of c) ≡ b
          → (k : Bool) → caller_in (caller_of c) (sources_in t (c ∷ cs) d) ≡ k
          → answers_of d cs (all_refused cs) ≡ answers_of d kept (all_refused kept)
          → cond b (answer_word c 11 ∷ 0 ∷ 0 ∷ answers_of d cs (all_refused cs)) (answers_of d cs (all_refused cs))
          ≡ answers_of d (cond k (c ∷ kept) kept) (all_refused (cond k (c ∷ kept) kept))
      go true e true f same = rw e (ap (λ (x : List ℕ). answer_word c 11 ∷ 0 ∷ 0 ∷ x) same)
      go true e false f same = absurd (true≢false (sym (called-in (caller_of c) _ (own (c ∷ cs)) e) ∙ f))
      go false e true f same = rw e same
      go false e false f same = same

pub refusing-all-passes : RefusingAllPasses
unfolding view
refusing-all-passes t cs d = rw (kept-answers t d cs)

pub refusing-all-differs : RefusingAllDiffers
unfolding everything all_refused
refusing-all-differs same =
    let shown : ◌≡◌ {A = ℕ} 0x4000_000B 0x4000_0000 = ap (λ (x : List ℕ). get_or x 0 0) (same T (split (0x4000_0000 ∷ [])) refl) in
    omega arith
