-- The codes of a call by itself, and that words which are as many as their first call has are that call alone.
-- Assumes nothing.
use Prim.Native.Nat.{ℕ, ◌+◌, ◌<◌, ◌≤◌}
use mathlib.Core.Path.{◌≡◌, sym, ap, ◌∙◌}
use mathlib.Core.List.{List, [], ◌∷◌}
use native.Mathlib.Omega.{arith}
use borrow.Author.Tests.{lt-ltb, le-ltb, eq-eqb, ne_eqb}
use lib.ListN.{length, drop, drop_of_length-le}
use Rattle.machine.specs.Call.{split}
use Rattle.calls.specs.Split.{second_at, width_of}
use Rattle.calls.proofs.SplitAt as splits
use Rattle.kernel.specs.Step.{step_entry_code}
use Rattle.single_call.specs.Single.{single_code, SingleCall, call_in, call_code, CallOfWords}

-- where the answer has space, and where it hasn't
pub too_small : (t space holders : List ℕ) → length space < 3 → single_code t space holders ≡ 99
unfolding single_code
too_small t space holders h = simp (lt-ltb _ _ h)

pub room : (t space holders : List ℕ) → 3 ≤ length space → single_code t space holders ≡ step_entry_code t (length holders)
unfolding single_code
room t space holders h = simp (le-ltb _ _ h)

-- where the words are more or fewer than one call, and where they are one
pub not-one : (t holders ws space : List ℕ) → (length ws ≡ width_of (second_at ws 0) → ⊥) → call_code t holders ws space ≡ 36
unfolding call_code
not-one t holders ws space h = simp (ne_eqb _ _ h)

pub no-space : (t holders ws space : List ℕ) → length ws ≡ width_of (second_at ws 0) → length space < 3 → call_code t holders ws space ≡ 6
unfolding call_code
no-space t holders ws space e h = simp (eq-eqb _ _ e, lt-ltb _ _ h)

pub fits : (t holders ws space : List ℕ) → length ws ≡ width_of (second_at ws 0) → 3 ≤ length space → call_code t holders ws space ≡ step_entry_code t (length holders)
unfolding call_code
fits t holders ws space e h = simp (eq-eqb _ _ e, le-ltb _ _ h)

pub some_words : (ws : List ℕ) → length ws ≡ width_of (second_at ws 0) → 0 < length ws
some_words ws e = omega (arith, e, splits.wide (second_at ws 0))

pub one-call : (ws : List ℕ) → length ws ≡ width_of (second_at ws 0) → split ws ≡ call_in ws ∷ []
unfolding split
one-call ws e =
    let none : drop (0 + width_of (second_at ws 0)) ws ≡ [] = drop_of_length-le ws {i = 0 + width_of (second_at ws 0)} (omega (arith, e)) in
    (splits.split_at ws 0 (some_words ws e)).front ∙ ap (λ (x : List ℕ). call_in ws ∷ split x) none

-- what is promised of the call in words, of what is promised of the call
pub of_words : (t holders ws space : List ℕ) (code : ℕ) (t' kept space' : List ℕ) → length ws ≡ width_of (second_at ws 0) → 3 ≤ length space
    → SingleCall t (call_in ws) space holders code t' space' kept → CallOfWords t holders ws space code t' kept space'
of_words t holders ws space code t' kept space' e h p =
    record {
      same_code = p.same_code ∙ room t space holders h ∙ sym (fits t holders ws space e h);
      one_call = λ _. one-call ws e;
      table = rw p.same_code p.table;
      same_holders = rw p.same_code p.same_holders;
      answer = rw p.same_code p.answer;
    }
