-- A call that has its outcome (specs/Outcome) is served as the machine serves it, and is one call more of a run under way.
-- Assumes nothing.
use mathlib.Core.Path.{◌≡◌, refl, sym, ap, ap₂, subst, ◌∙◌}
use mathlib.Core.List.{List, ◌++◌}
use Prim.Native.Nat.{ℕ, ◌+◌, ◌*◌, ◌<◌}
use lib.ListN.{length, get_or, take, drop}
use Rattle.machine.specs.Table.{domains, endpoints}
use Rattle.machine.specs.Check.{Accepted}
use Rattle.machine.specs.Call.{first, Call.one}
use Rattle.machine.specs.Machine as machine
use Rattle.machine.specs.Machine.{Decision, answer_to, answer_word, shown_caller, after, effect}
use Rattle.machine.specs.Holders.{holders_of}
use Rattle.machine.proofs.Step.{stays-accepted}
use Rattle.calls.specs.Split.{call_of, second_at, width_of}
use Rattle.std.specs.Prelude.{Option, None, Some, Result}
use Rattle.answers.specs.Answer.{answer_of}
use Rattle.calls.specs.declared.Refusal.{Refusal}
use Rattle.calls.specs.Decode.{decoded}
use Rattle.calls.specs.Decide.{decide_call}
use Rattle.calls.specs.declared.Call.{Call}
use Rattle.calls.proofs.Decided.{decided}
use Rattle.holders.specs.Noted.{holders_after}
use Rattle.holders.proofs.Kept.{holders-kept}
use Rattle.kernel.specs.Step.{StepOutcome}
use Rattle.kernel.specs.Outcome.{CallOutcome}
use Rattle.kernel.proofs.RunInvariant.{Underway, underway-next}

-- an answer shows only the first word of a call
by_first : (t : List ℕ) (w : ℕ) (s : Option ℕ) (d : Decision) → answer_to t (one w) d ≡ answer_to t (call_of w s) d
unfolding answer_to answer_word shown_caller first
by_first t w None d = refl
by_first t w (Some v) d = refl

pub served : (t p : List ℕ) → Accepted t → p ≡ holders_of t → (w : ℕ) (s : Option ℕ) (r : Result (ℕ × ℕ) Refusal) (words t' p' : List ℕ)
    → CallOutcome t p (decide_call t (decoded w s)) r t' p'
    → words ≡ answer_of w r
    → StepOutcome t (call_of w s) words t' p'
unfolding machine.answer machine.step
served t p a is w s r words t' p' x said =
    let same = sym (decided t w s) in
    record {
      answer = said ∙ x.answer w ∙ ap (answer_to t (one w)) same ∙ by_first t w s (machine.decide t (call_of w s));
      table = x.table ∙ ap (λ (d : Decision). after t (effect t d)) same;
      holders =
          x.holders
          ∙ ap₂ (λ (h : List ℕ) (d : Decision). holders_after h (effect t d)) is same
          ∙ holders-kept t (call_of w s) a;
    }

-- what holds of a call holds of the same call
pub here : {t p : List ℕ} {call x y : Call} {r : Result (ℕ × ℕ) Refusal} {t' p' : List ℕ}
    → call ≡ x
    → call ≡ y
    → CallOutcome t p (decide_call t x) r t' p'
    → CallOutcome t p (decide_call t y) r t' p'
here {t} {p} {call} {x} {y} {r} {t'} {p'} is same s =
    subst (λ (c : Call). CallOutcome t p (decide_call t c) r t' p') (sym is ∙ same) s

-- ---- a run under way, with n and m read once
pub record OnItsWay (n m : ℕ) (t₀ ws space₀ p₀ t space p : List ℕ) (k i : ℕ) : Type 0 where
  pub underway : Underway t₀ ws space₀ p₀ t space p k i
  pub domains : n ≡ domains t
  pub endpoints : m ≡ endpoints t

pub way_next : {n m : ℕ} {t₀ ws space₀ p₀ t space p : List ℕ} {k i : ℕ}
    → OnItsWay n m t₀ ws space₀ p₀ t space p k i
    → i < length ws
    → (s : Option ℕ) (w : ℕ) (words t' space' p' : List ℕ)
    → s ≡ second_at ws i
    → w ≡ width_of s
    → StepOutcome t (call_of (get_or ws i 0) s) words t' p'
    → length p' ≡ length p
    → space' ≡ take (3 * k) space ++ (words ++ drop (3 * k + 3) space)
    → length space' ≡ length space
    → OnItsWay n m t₀ ws space₀ p₀ t' space' p' (k + 1) (i + w)
way_next {n} {m} {t₀} {ws} {space₀} {p₀} {t} {space} {p} {k} {i} y l s w words t' space' p' is wide done many put long =
    let stays = stays-accepted t (call_of (get_or ws i 0) s) y.underway.accepted in
    record {
      underway = underway-next y.underway l s w words t' space' p' is wide done many put long;
      domains = y.domains ∙ sym stays.frame.same_domains ∙ ap domains (sym done.table);
      endpoints = y.endpoints ∙ sym stays.frame.same_endpoints ∙ ap endpoints (sym done.table);
    }
