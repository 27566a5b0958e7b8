-- Serving a domain: the call that is passed to the step is the turn's, its words can be removed, and what the step promises of it
-- is what the turn does (specs/Promise). Assumes nothing.
use mathlib.Core.Path.{◌≡◌, refl, sym, ap, ◌∙◌}
use mathlib.Core.Bool.{Bool, true, false, cond}
use mathlib.Core.List.{List, [], ◌++◌}
use mathlib.Core.Option.{some}
use Prim.Native.Nat.{ℕ, ◌<◌}
use native.Mathlib.Omega.{arith}
use borrow.Author.Tests.{eqb-true, eqb-false, eq-eqb, ne_eqb, le-ltb}
use lib.Dec.{eqb}
use lib.ListN.{length, drop}
use Rattle.machine.specs.Table.{domains}
use Rattle.machine.specs.Machine as machine
use Rattle.machine.specs.Holders.{holders_of}
use Rattle.run_result.specs.Entry.{entry_refusal_code}
use Rattle.run_result.specs.declared.EntryRefusal.{EntryRefusal}
use Rattle.answers.specs.declared.Answer.{Answer}
use Rattle.answers.specs.Answer.{answer_words, answers_put}
use Rattle.calls.specs.Split.{width_of}
use Rattle.kernel.specs.Step.{step_entry_code, StepPromise}
use Rattle.std.specs.Prelude.{Ok, Err, None}
use Rattle.turns_theory.specs.Turns.{first_waiting, table_after, holders_after_turn, Turn.idle}
use Rattle.turns_theory.proofs.Pending.{turn-idle}
use Rattle.turns_state.specs.Pending.{second_of_oldest}
use Rattle.turns_state.specs.State.{state_length, block, turns_in, turn_in, state_after, removed_from, next_to_serve}
use Rattle.turns_state.proofs.Next.{next-none}
use Rattle.turns_state.proofs.Oldest.{oldest-call, oldest-turn, oldest-left}
use Rattle.turns.specs.Codes.{bad_turns, then_code}
use Rattle.turns.specs.Promise.{turn_code_on_state, served_by, space_after, turn_made, turn_outcome, TurnPromise, words, outcome, MayServe}
use Rattle.turns.proofs.Codes.{then_some, turn-unfit, turn-idle-code, turn-space, turn-serves}
use Rattle.turns.proofs.Outcomes.{entry-some}

-- two outcomes are one where their parts are
outcome-same : {k k' n n' : ℕ} {t t' ws ws' h h' a a' : List ℕ} → k ≡ k' → n ≡ n' → t ≡ t' → ws ≡ ws' → h ≡ h' → a ≡ a'
    → outcome k n (words t ws h a) ≡ outcome k' n' (words t' ws' h' a')
outcome-same code served table state holders answer =
    λ i.
    record {
      code = code i;
      served = served i;
      left = record { table = table i; state = state i; holders = holders i; answer = answer i };
    }

module _ (t ws holders space : List ℕ) where
  -- a turn that is refused changes nothing
  pub refused-turn : (k n : ℕ) → k ≡ turn_code_on_state t ws (length space) (length holders) → (k ≡ 0 → ⊥) → n ≡ 0 → (t' kept : List ℕ) → t' ≡ t → kept ≡ holders
      → TurnPromise (words t ws holders space) (outcome k n (words t' ws kept space))
  unfolding turn_outcome
  refused-turn k n is bad none t' kept same same-holders =
      rw (ne_eqb (turn_code_on_state t ws (length space) (length holders)) 0 (λ z. bad (is ∙ z)))
      (outcome-same is none same refl same-holders refl)

  -- one that isn't does what a turn does
  pub made-turn : (o : _) → turn_code_on_state t ws (length space) (length holders) ≡ 0 → o ≡ turn_made (words t ws holders space) (turn_in t ws) → TurnPromise (words t ws holders space) o
  unfolding turn_outcome
  made-turn o is made = rw (eq-eqb (turn_code_on_state t ws (length space) (length holders)) 0 is) made

  -- the state's length refuses it
  pub unfit-turn : (k : ℕ) → (length ws ≡ state_length (domains t) → ⊥) → k ≡ then_code (step_entry_code t (length holders)) bad_turns
      → TurnPromise (words t ws holders space) (outcome k 0 (words t ws holders space))
  unfit-turn k other is =
      refused-turn k 0 (is ∙ sym (turn-unfit t ws (length space) (length holders) other)) (λ z. then_some _ bad_turns (λ e. omega arith) (sym is ∙ z)) refl t holders refl refl

  -- nothing is pending
  pub idle-turn : (k n : ℕ) → length ws ≡ state_length (domains t) → None ≡ next_to_serve (domains t) ws → k ≡ step_entry_code t (length holders) → n ≡ 0
      → TurnPromise (words t ws holders space) (outcome k n (words t ws holders space))
  unfolding turn_made served_by table_after state_after holders_after_turn space_after turn_in
  idle-turn k n size next is none = go (eqb k 0) refl
    where
      it : turn_in t ws ≡ idle
      it = turn-idle (domains t) (turns_in ws) (next-none (domains t) ws size next)

      code : k ≡ turn_code_on_state t ws (length space) (length holders)
      code = is ∙ sym (turn-idle-code t ws (length space) (length holders) size it)

      go : (b : Bool) → eqb k 0 ≡ b → TurnPromise (words t ws holders space) (outcome k n (words t ws holders space))
      go true h = made-turn _ (sym code ∙ eqb-true _ _ h) (rw it (outcome-same (eqb-true _ _ h) none refl refl refl refl))
      go false h = refused-turn k n code (eqb-false _ _ h) none t holders refl refl

module _ {t ws space : List ℕ} {d : ℕ} (size : length ws ≡ state_length (domains t)) (next : first_waiting (domains t) (turns_in ws) ≡ some d) where
  -- the space refuses it
  pub no-space-turn : (holders : List ℕ) (k : ℕ) → length space < 3 → k ≡ then_code (step_entry_code t (length holders)) 6
      → TurnPromise (words t ws holders space) (outcome k 0 (words t ws holders space))
  no-space-turn holders k few is =
      refused-turn t ws holders space k 0
      (is ∙ sym (turn-space t ws (length space) (length holders) size d _ (oldest-turn t ws d size next) few))
      (λ z. then_some _ 6 (λ e. omega arith) (sym is ∙ z)) refl t holders refl refl

module _ {t ws space : List ℕ} {d : ℕ} (m : MayServe t ws space d) where
  -- the code is the step's
  served-code : (holders : List ℕ) → turn_code_on_state t ws (length space) (length holders) ≡ step_entry_code t (length holders)
  served-code holders =
      turn-serves t ws (length space) (length holders) m.size d (oldest-call ws d) (oldest-turn t ws d m.size m.next) m.room

  -- what the step promises of a call that is refused and of one that is answered, as the turn's
  pub serve-refused : (holders : List ℕ) (r : EntryRefusal) (t' kept : List ℕ) → StepPromise t (oldest-call ws d) holders (Err r) t' kept
      → TurnPromise (words t ws holders space) (outcome (entry_refusal_code r) 0 (words t' ws kept space))
  serve-refused holders r t' kept p =
      let bad = ne_eqb (step_entry_code t (length holders)) 0 (λ none. entry-some r (p.code ∙ none)) in
      refused-turn t ws holders space (entry_refusal_code r) 0 (p.code ∙ sym (served-code holders)) (entry-some r) refl t' kept
      (p.table ∙ ap (λ (b : Bool). cond b (machine.step t (oldest-call ws d)) t) bad)
      (p.same_holders ∙ ap (λ (b : Bool). cond b (holders_of (machine.step t (oldest-call ws d))) holders) bad)

  pub serve-answered : (holders : List ℕ) (a : Answer) (t' kept : List ℕ) (few : ℕ) (ws' space' : List ℕ)
      → few ≡ width_of (second_of_oldest (block ws d))
      → ws' ≡ removed_from ws d few
      → space' ≡ answers_put space (answer_words a)
      → StepPromise t (oldest-call ws d) holders (Ok a) t' kept
      → TurnPromise (words t ws holders space) (outcome 0 1 (words t' ws' kept space'))
  unfolding turn_made served_by table_after holders_after_turn space_after answers_put
  serve-answered holders a t' kept few ws' space' width left reported p =
      let fine = eq-eqb (step_entry_code t (length holders)) 0 (sym p.code) in
      let it = oldest-turn t ws d m.size m.next in
      made-turn t ws holders space _ (served-code holders ∙ sym p.code)
      (rw it
      (outcome-same refl refl
      (p.table ∙ ap (λ (b : Bool). cond b (machine.step t (oldest-call ws d)) t) fine)
      (left ∙ ap (removed_from ws d) width ∙ oldest-left t ws d m.size m.next)
      (p.same_holders ∙ ap (λ (b : Bool). cond b (holders_of (machine.step t (oldest-call ws d))) holders) fine)
      (reported
      ∙ ap (λ (b : Bool). cond b space (answer_words a ++ drop 3 space)) (le-ltb (length space) 3 m.room)
      ∙ ap (λ (xs : List ℕ). xs ++ drop 3 space) (p.words ∙ ap (λ (b : Bool). cond b (machine.answer t (oldest-call ws d)) []) fine))))
