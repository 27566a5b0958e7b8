-- The words of events that are as promised match a history (specs/WordHistory). Assumes nothing.
use mathlib.Core.Path.{◌≡◌, refl, sym, ap, ap₂, subst, subst₂, ◌∙◌}
use mathlib.Core.Bool.{Bool, true, false, cond, not, false≢true}
use mathlib.Core.List.{List, [], ◌∷◌, ◌++◌, map}
use Prim.Native.Nat.{ℕ, ◌+◌}
use borrow.Author.Tests.{eqb-true}
use lib.Dec.{eqb}
use lib.ListN.{length, take, drop, length-append, length-replicate}
use lib.Seq.{take_at}
use Rattle.machine.specs.Table.{domains}
use Rattle.machine.specs.Check.{table_code, Accepted}
use Rattle.machine.specs.Call.{Call, split}
use Rattle.machine.specs.Machine.{answer}
use Rattle.machine.specs.Run as machine
use Rattle.machine.specs.RunClaims.{Noninterference}
use Rattle.machine.proofs.Split.{answer-length}
use Rattle.machine.proofs.Step.{stays-accepted}
use Rattle.turns_theory.specs.Turns.{Turns, Turn, begun, turn_code, answer_code, table_after, answer_of, holders_after_turn, turn_of, Turn.idle, Turn.serves}
use Rattle.turns_theory.specs.History.{Layer, Event, event_code, next_turn, done, after_event, layer_after, along_with, turn_at, turns_of, answer_at, answers_served, holders_of_turn, holders_at, holders_throughout, calls_at, handed_in_by, served, served_of, holders_each, Event.hand_in, Event.turn}
use Rattle.turns_theory.proofs.Histories.{refused-changes-nothing, as-one-list, history-noninterference, in_order}
use Rattle.turns_state.specs.State.{state_length, beginning, turns_in, turn_in, state_handed_in, state_after}
use Rattle.turns.specs.Promise.{hand_in_code_on_state, served_by, space_after, HandInPromise, TurnWords, TurnOutcome, TurnPromise, code_of, turn_made, turn_outcome, words, outcome}
use Rattle.turns.specs.Claims.{HandsIn}
use Rattle.turns.specs.Claims as claims
use Rattle.turns.specs.WordHistory.{WordEvent, AsPromised, table_left, state_left, code_given, answer_given, holders_given, turn_done, turn_given, calls_accepted, event_of, table_at, state_at, answers_given, all_holders_given, turns_done, turns_given, all_calls_accepted, event_codes, MatchesHistory, EveryWordHistory, first, FromTheBeginning, WordEvent.hands_in, WordEvent.turns}
use Rattle.turns.proofs.Claims.{begins, every-hand-in, every-turn}

-- the layer that a table and a state's words represent
abbrev layer : List ℕ → List ℕ → Layer
layer t ws = record { table = t; turns = turns_in ws }

abbrev with_turns : List ℕ → Turns → Layer
with_turns t s = record { table = t; turns = s }

-- an event that isn't refused leaves what `done` says
after-done : (l : Layer) (e : Event) → eqb (event_code l e) 0 ≡ true → after_event l e ≡ done l e
unfolding after_event
after-done l e h = rw h

nothing : {A : Type 0} (b : Bool) → ◌≡◌ {A = List A} [] (cond b [] [])
nothing true = refl
nothing false = refl

-- What one event reports: what it returned, and what it left.
record Next (t ws : List ℕ) (h : WordEvent) : Type 0 where
  code : code_given h ≡ event_code (layer t ws) (event_of h)
  made : turn_given t ws h ≡ cond (eqb (event_code (layer t ws) (event_of h)) 0) (turn_at (layer t ws) (event_of h)) []
  done : turn_done h ≡ length (turn_given t ws h)
  answers : answer_given h ≡ cond (eqb (event_code (layer t ws) (event_of h)) 0) (answer_at (layer t ws) (event_of h)) []
  holders : holders_given h ≡ cond (eqb (event_code (layer t ws) (event_of h)) 0) (holders_at (layer t ws) (event_of h)) []
  accepted : (d : ℕ) → calls_accepted d h ≡ cond (eqb (event_code (layer t ws) (event_of h)) 0) (calls_at d (layer t ws) (event_of h)) []
  left : layer (table_left t h) (state_left h) ≡ after_event (layer t ws) (event_of h)
  size : length (state_left h) ≡ state_length (domains (table_left t h))

-- ---- handing in

module _ (t ws : List ℕ) (size : length ws ≡ state_length (domains t)) where
  next-hand-in : (d : ℕ) (vs : List ℕ) (code : ℕ) (ws' : List ℕ) → HandInPromise t ws d vs code ws' → Next t ws (hands_in d vs code ws')
  unfolding code_given answer_given holders_given turn_done turn_given calls_accepted event_of table_left state_left event_code answer_at holders_at turn_at calls_at done
  next-hand-in d vs code ws' p =
      record {
        code = same;
        made = nothing (eqb (event_code (layer t ws) (hand_in d vs)) 0);
        done = refl;
        answers = nothing (eqb (event_code (layer t ws) (hand_in d vs)) 0);
        holders = nothing (eqb (event_code (layer t ws) (hand_in d vs)) 0);
        accepted = λ x. ap (λ (k : ℕ). cond (eqb k 0) (cond (eqb d x) (split vs) []) []) same;
        left = (go (eqb (hand_in_code_on_state t ws d vs) 0) refl).0;
        size = (go (eqb (hand_in_code_on_state t ws d vs) 0) refl).1;
      }
    where
      e : HandsIn t ws d vs
      e = every-hand-in t ws d vs size

      same : code ≡ event_code (layer t ws) (hand_in d vs)
      same = p.same_code ∙ e.code

      is : (b : Bool) → eqb (hand_in_code_on_state t ws d vs) 0 ≡ b → ws' ≡ cond b (state_handed_in ws d vs) ws
      is b h = p.state ∙ ap (λ (x : Bool). cond x (state_handed_in ws d vs) ws) h

      go : (b : Bool) → eqb (hand_in_code_on_state t ws d vs) 0 ≡ b
          → (layer t ws' ≡ after_event (layer t ws) (hand_in d vs)) × (length ws' ≡ state_length (domains t))
      go true h = (
        ap (with_turns t) (ap turns_in (is true h) ∙ e.left (eqb-true _ _ h))
            ∙ sym (after-done (layer t ws) (hand_in d vs) (ap (λ (k : ℕ). eqb k 0) (sym e.code) ∙ h)),
        ap length (is true h) ∙ e.size (eqb-true _ _ h) ∙ size,
      )
      go false h = (
        ap (layer t) (is false h)
            ∙ sym (refused-changes-nothing (layer t ws) (hand_in d vs) (ap (λ (k : ℕ). eqb k 0) (sym e.code) ∙ h)),
        ap length (is false h) ∙ size,
      )

-- ---- a turn

-- what a turn reports of the call that it served
turn-answer : (t : List ℕ) (x : Turn) (space : List ℕ) → cond (eqb (served_by x) 0) [] (take 3 (space_after t x space)) ≡ answer_of t x
unfolding served_by space_after answer_of
turn-answer t idle space = refl
turn-answer t (serves d c) space = take_at (answer t c) (drop 3 space) 3 (answer-length t c)

turn-holders : (t : List ℕ) (x : Turn) (holders : List ℕ) → cond (eqb (served_by x) 0) [] (holders_after_turn t x holders ∷ []) ≡ holders_of_turn t x
unfolding served_by holders_after_turn holders_of_turn
turn-holders t idle holders = refl
turn-holders t (serves d c) holders = refl

-- a turn that isn't refused was requested on an accepted table, and leaves its count of domains
turn-accepted : (t : List ℕ) (s : Turns) (space lent : ℕ) → eqb (turn_code t s space lent) 0 ≡ true → Accepted t
unfolding turn_code
turn-accepted t s space lent h = go (eqb (table_code t) 0) refl
  where
    go : (b : Bool) → eqb (table_code t) 0 ≡ b → Accepted t
    go true e = eqb-true _ _ e
    go false e =
        absurd (false≢true (sym (ap (λ (x : Bool). eqb (cond (not x) (table_code t) (cond (not (eqb lent (domains t))) 6 (answer_code (turn_of (domains t) s) space))) 0) e ∙ e) ∙ h))

turn-domains : (t : List ℕ) (x : Turn) → Accepted t → domains (table_after t x) ≡ domains t
unfolding table_after
turn-domains t idle a = refl
turn-domains t (serves d c) a = (stays-accepted t c a).frame.same_domains

-- the outcome of a turn that isn't refused, and of one that is, and its code
pub made-outcome : (w : TurnWords) (o : TurnOutcome) → TurnPromise w o → eqb (code_of w) 0 ≡ true → o ≡ turn_made w (turn_in w.table w.state)
unfolding turn_outcome
made-outcome w o p h = p ∙ ap (λ (b : Bool). cond b (turn_made w (turn_in w.table w.state)) (outcome (code_of w) 0 w)) h

pub refused-outcome : (w : TurnWords) (o : TurnOutcome) → TurnPromise w o → eqb (code_of w) 0 ≡ false → o ≡ outcome (code_of w) 0 w
unfolding turn_outcome
refused-outcome w o p h = p ∙ ap (λ (b : Bool). cond b (turn_made w (turn_in w.table w.state)) (outcome (code_of w) 0 w)) h

pub outcome-code : (w : TurnWords) (o : TurnOutcome) → TurnPromise w o → o.code ≡ code_of w
unfolding turn_made
outcome-code w o p = go (eqb (code_of w) 0) refl
  where
    go : (b : Bool) → eqb (code_of w) 0 ≡ b → o.code ≡ code_of w
    go true h = ap (λ (x : TurnOutcome). x.code) (made-outcome w o p h) ∙ sym (eqb-true _ _ h)
    go false h = ap (λ (x : TurnOutcome). x.code) (refused-outcome w o p h)

module _ (t ws : List ℕ) (size : length ws ≡ state_length (domains t)) (holders space : List ℕ) (o : TurnOutcome) (p : TurnPromise (words t ws holders space) o) where
  next-turn : Next t ws (turns holders space o)
  unfolding code_given answer_given holders_given turn_done turn_given calls_accepted event_of table_left state_left event_code answer_at holders_at turn_at calls_at done next_turn turn_in turn_made
  next-turn = go (eqb (code_of w) 0) refl
    where
      w : TurnWords
      w = words t ws holders space

      e : claims.TurnMade t ws (length space) (length holders)
      e = every-turn t ws (length space) (length holders) size

      x : Turn
      x = turn_in t ws

      code : o.code ≡ event_code (layer t ws) (turn (length space) (length holders))
      code = outcome-code w o p ∙ e.code

      made : cond (eqb o.code 0) (x ∷ []) [] ≡ cond (eqb (event_code (layer t ws) (turn (length space) (length holders))) 0) (x ∷ []) []
      made = ap (λ (k : ℕ). cond (eqb k 0) (x ∷ []) []) code

      counted : (b : Bool) → ◌≡◌ {A = ℕ} (cond b 1 0) (length (cond b (x ∷ []) []))
      counted true = refl
      counted false = refl

      go : (b : Bool) → eqb (code_of w) 0 ≡ b → Next t ws (turns holders space o)
      go true h =
          let fine = ap (λ (j : ℕ). eqb j 0) (sym e.code) ∙ h in
          let is = made-outcome w o p h in
          let table : o.left.table ≡ table_after t x = ap (λ (y : TurnOutcome). y.left.table) is in
          let state : o.left.state ≡ state_after ws x = ap (λ (y : TurnOutcome). y.left.state) is in
          record {
            code = code;
            made = made;
            done = counted (eqb o.code 0);
            answers =
                ap (λ (y : TurnOutcome). cond (eqb y.served 0) [] (take 3 y.left.answer)) is
                ∙ turn-answer t x space
                ∙ sym (ap (λ (b : Bool). cond b (answer_of t x) []) fine);
            holders =
                ap (λ (y : TurnOutcome). cond (eqb y.served 0) [] (y.left.holders ∷ [])) is
                ∙ turn-holders t x holders
                ∙ sym (ap (λ (b : Bool). cond b (holders_of_turn t x) []) fine);
            accepted = λ d. nothing (eqb (event_code (layer t ws) (turn (length space) (length holders))) 0);
            left =
                ap₂ layer table state
                ∙ ap (with_turns (table_after t x)) e.left
                ∙ sym (after-done (layer t ws) (turn (length space) (length holders)) fine);
            size =
                ap length state
                ∙ e.size
                ∙ size
                ∙ ap state_length (sym (ap domains table ∙ turn-domains t x (turn-accepted t (turns_in ws) (length space) (length holders) fine)));
          }
      go false h =
          let bad = ap (λ (j : ℕ). eqb j 0) (sym e.code) ∙ h in
          let is = refused-outcome w o p h in
          let table : o.left.table ≡ t = ap (λ (y : TurnOutcome). y.left.table) is in
          let state : o.left.state ≡ ws = ap (λ (y : TurnOutcome). y.left.state) is in
          record {
            code = code;
            made = made;
            done = counted (eqb o.code 0);
            answers =
                ap (λ (y : TurnOutcome). cond (eqb y.served 0) [] (take 3 y.left.answer)) is
                ∙ sym (ap (λ (b : Bool). cond b (answer_of t x) []) bad);
            holders =
                ap (λ (y : TurnOutcome). cond (eqb y.served 0) [] (y.left.holders ∷ [])) is
                ∙ sym (ap (λ (b : Bool). cond b (holders_of_turn t x) []) bad);
            accepted = λ d. nothing (eqb (event_code (layer t ws) (turn (length space) (length holders))) 0);
            left = ap₂ layer table state ∙ sym (refused-changes-nothing (layer t ws) (turn (length space) (length holders)) bad);
            size = ap length state ∙ size ∙ ap (λ (y : List ℕ). state_length (domains y)) (sym table);
          }

next : (t ws : List ℕ) (h : WordEvent) → length ws ≡ state_length (domains t) → AsPromised t ws h → Next t ws h
next t ws (hands_in d vs code ws') size p = next-hand-in t ws size d vs code ws' p
next t ws (turns holders space o) size p = next-turn t ws size holders space o p

-- ---- one after another

pub every-word-history : EveryWordHistory
unfolding answers_given all_holders_given turns_done turns_given all_calls_accepted table_at state_at event_codes layer_after along_with
every-word-history t ws [] size p =
    record { codes = refl; made = refl; done = refl; answers = refl; holders = refl; accepted = λ d. refl; table = refl; turns = refl }
every-word-history t ws (h ∷ hs) size p =
    let n = next t ws h size p.0 in
    let r = every-word-history (table_left t h) (state_left h) hs n.size p.1 in
    let es = map event_of hs in
    record {
      codes = ap₂ (λ (k : ℕ) (ks : List ℕ). k ∷ ks) n.code (r.codes ∙ ap (λ (l : Layer). event_codes l es) n.left);
      made = ap₂ (λ (x y : List Turn). x ++ y) n.made (r.made ∙ ap (λ (l : Layer). turns_of l es) n.left);
      done = ap₂ ◌+◌ n.done r.done ∙ sym (length-append (turn_given t ws h) (turns_given (table_left t h) (state_left h) hs));
      answers = ap₂ (λ (x y : List ℕ). x ++ y) n.answers (r.answers ∙ ap (λ (l : Layer). answers_served l es) n.left);
      holders = ap₂ (λ (x y : List (List ℕ)). x ++ y) n.holders (r.holders ∙ ap (λ (l : Layer). holders_throughout l es) n.left);
      accepted = λ d. ap₂ (λ (x y : List Call). x ++ y) (n.accepted d) (r.accepted d ∙ ap (λ (l : Layer). handed_in_by d l es) n.left);
      table = r.table ∙ ap (λ (l : Layer). (layer_after l es).table) n.left;
      turns = r.turns ∙ ap (λ (l : Layer). (layer_after l es).turns) n.left;
    }

pub from-the-beginning : FromTheBeginning
unfolding begun turns_in split
from-the-beginning t hs p =
    let ws = beginning (domains t) in
    let l = first t in
    let es = map event_of hs in
    let reported = subst (λ (s : Turns). MatchesHistory (with_turns t s) ws hs) (begins (state_length (domains t))) (every-word-history t ws hs (length-replicate {A = ℕ} (state_length (domains t)) 0) p) in
    let one = as-one-list l es in
    let calls = ap served (sym reported.made) in
    record {
      matches = reported;
      answers = reported.answers ∙ one.answers ∙ ap (machine.answers t) calls;
      holders = reported.holders ∙ one.holders ∙ ap (holders_each t) calls;
      table = reported.table ∙ one.table ∙ ap (machine.run t) calls;
      noninterference =
          λ a.
          subst (λ (cs : List Call). Noninterference t cs (answers_given hs) (table_at t hs)) calls
          (subst₂ (λ (xs end : List ℕ). Noninterference t (served (turns_of l es)) xs end) (sym reported.answers) (sym reported.table) (history-noninterference l es a));
      order =
          λ d.
          ap₂ (λ (x : List Turn) (s : Turns). served_of d x ++ split (s.pending d)) reported.made reported.turns
          ∙ in_order l es d
          ∙ sym (reported.accepted d);
    }
