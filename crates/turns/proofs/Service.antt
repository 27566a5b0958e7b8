-- Each pending call is served in time by an event of the history, with that call's three words; and the holders that pass from event to event
-- are what the table says after every event (specs/WordHistory). Assumes nothing.
use mathlib.Core.Path.{◌≡◌, refl, sym, ap, ap₂, subst, ◌∙◌}
use mathlib.Core.Bool.{Bool, true, false, cond, true≢false}
use mathlib.Core.List.{List, [], ◌∷◌, ◌++◌, map}
use Prim.Native.Nat.{ℕ, zero, suc, ◌<◌, ◌≤◌}
use native.Mathlib.Omega.{arith}
use borrow.Author.Tests.{eqb-true, eq-eqb}
use lib.Dec.{eqb}
use lib.ListN.{length, get_or, take, drop, length-take}
use lib.Seq.{take_at}
use Rattle.machine.specs.Call.{Call}
use Rattle.machine.specs.Machine.{answer}
use Rattle.machine.specs.Holders.{holders_of}
use Rattle.machine.proofs.Split.{answer-length}
use Rattle.turns_theory.specs.Turns.{Turn, most_pending, table_after, holders_after_turn, Turn.idle, Turn.serves}
use Rattle.turns_theory.specs.History.{turns_of, served_of}
use Rattle.turns_theory.specs.Claims.{ServedWithin}
use Rattle.turns_theory.proofs.InTime.{served-in-time, every-call-served-in-time, all-served-in-time}
use Rattle.turns_state.specs.Pending.{count, pending_in}
use Rattle.turns_state.specs.State.{block, turns_in, turn_in}
use Rattle.turns.specs.Promise.{TurnWords, TurnOutcome, TurnPromise, code_of, served_by, space_after, turn_made, words}
use Rattle.turns.specs.WordHistory.{WordEvent, AllAsPromised, table_left, state_left, turn_done, turn_given, event_of, table_at, state_at, turns_done, turns_given, ServedInHistory, PendingIn, ServedInTimeByWords, EveryCallServedByWords, AllServedByWords, holders_left, holders_at, AllLentKept, HoldersThroughout, WordEvent.hands_in, WordEvent.turns}
use Rattle.turns.proofs.WordHistory.{made-outcome, refused-outcome, outcome-code, every-word-history}

-- The event of a history that is one of its turns: what is before it and after it, and that it was as promised.
record Located (t ws : List ℕ) (hs : List WordEvent) (at : ℕ) (x : Turn) : Type 0 where
  before : List WordEvent
  holders : List ℕ
  space : List ℕ
  outcome : TurnOutcome
  after : List WordEvent
  there : hs ≡ before ++ (turns holders space outcome ∷ after)
  place : turns_done before ≡ at
  made : turns_given t ws before ≡ take at (turns_given t ws hs)
  next : turn_in (table_at t before) (state_at ws before) ≡ x
  code : outcome.code ≡ 0
  promised : TurnPromise (words (table_at t before) (state_at ws before) holders space) outcome

no-turn : {d : ℕ} {c : Call} → idle ≡ serves d c → ⊥
no-turn p = true≢false (ap is_idle p)
  where
    is_idle : Turn → Bool
    is_idle idle = true
    is_idle (serves d c) = false

-- an event that is no turn or is refused, before those among which it is
passed : (t ws : List ℕ) (h : WordEvent) (hs : List WordEvent) (at : ℕ) (x : Turn) → turn_given t ws h ≡ [] → turn_done h ≡ 0
    → Located (table_left t h) (state_left h) hs at x → Located t ws (h ∷ hs) at x
unfolding table_at state_at turns_done turns_given
passed t ws h hs at x none zero-done l =
    record {
      before = h ∷ l.before;
      holders = l.holders;
      space = l.space;
      outcome = l.outcome;
      after = l.after;
      there = ap (λ (ys : List WordEvent). h ∷ ys) l.there;
      place = omega (arith, zero-done, l.place);
      made = ap₂ (λ (xs ys : List Turn). xs ++ ys) none l.made ∙ sym (ap (λ (xs : List Turn). take at (xs ++ turns_given (table_left t h) (state_left h) hs)) none);
      next = l.next;
      code = l.code;
      promised = l.promised;
    }

-- a turn that wasn't refused, before those among which it is
counted : (t ws : List ℕ) (h : WordEvent) (hs : List WordEvent) (at : ℕ) (x y : Turn) → turn_given t ws h ≡ y ∷ [] → turn_done h ≡ 1
    → Located (table_left t h) (state_left h) hs at x → Located t ws (h ∷ hs) (suc at) x
unfolding table_at state_at turns_done turns_given
counted t ws h hs at x y one one-done l =
    record {
      before = h ∷ l.before;
      holders = l.holders;
      space = l.space;
      outcome = l.outcome;
      after = l.after;
      there = ap (λ (ys : List WordEvent). h ∷ ys) l.there;
      place = omega (arith, one-done, l.place);
      made =
          ap₂ (λ (xs ys : List Turn). xs ++ ys) one l.made
          ∙ sym (ap (λ (xs : List Turn). take (suc at) (xs ++ turns_given (table_left t h) (state_left h) hs)) one);
      next = l.next;
      code = l.code;
      promised = l.promised;
    }

-- it is the first
here : (t ws holders space : List ℕ) (o : TurnOutcome) (hs : List WordEvent) (x : Turn) → TurnPromise (words t ws holders space) o → o.code ≡ 0 → turn_in t ws ≡ x
    → Located t ws (turns holders space o ∷ hs) 0 x
unfolding table_at state_at turns_done turns_given
here t ws holders space o hs x p fine is =
    record {
      before = [];
      holders = holders;
      space = space;
      outcome = o;
      after = hs;
      there = refl;
      place = refl;
      made = refl;
      next = is;
      code = fine;
      promised = p;
    }

located : (hs : List WordEvent) (t ws : List ℕ) (at d : ℕ) (c : Call) → AllAsPromised t ws hs → get_or (turns_given t ws hs) at idle ≡ serves d c → Located t ws hs at (serves d c)
unfolding turns_given turn_given turn_done
located [] t ws zero d c p is = absurd (no-turn is)
located [] t ws (suc at) d c p is = absurd (no-turn is)
located (hands_in e vs code ws' ∷ hs) t ws at d c p is = passed t ws (hands_in e vs code ws') hs at (serves d c) refl refl (located hs _ _ at d c p.1 is)
located (turns holders space o ∷ hs) t ws at d c p is = go (λ at is. located hs _ _ at d c p.1 is) (eqb o.code 0) refl at is
  where
    h : WordEvent
    h = turns holders space o

    ts : List Turn
    ts = turns_given (table_left t h) (state_left h) hs

    go : ((at : ℕ) → get_or ts at idle ≡ serves d c → Located (table_left t h) (state_left h) hs at (serves d c))
        → (b : Bool) → eqb o.code 0 ≡ b → (at : ℕ) → get_or (cond (eqb o.code 0) (turn_in t ws ∷ []) [] ++ ts) at idle ≡ serves d c
        → Located t ws (h ∷ hs) at (serves d c)
    go rest true f zero is =
        here t ws holders space o hs (serves d c) p.0 (eqb-true _ _ f) (sym (ap (λ (b : Bool). get_or (cond b (turn_in t ws ∷ []) [] ++ ts) 0 idle) f) ∙ is)
    go rest true f (suc at) is =
        counted t ws h hs at (serves d c) (turn_in t ws) (ap (λ (b : Bool). cond b (turn_in t ws ∷ []) []) f) (ap (λ (b : Bool). cond b 1 0) f)
        (rest at (sym (ap (λ (b : Bool). get_or (cond b (turn_in t ws ∷ []) [] ++ ts) (suc at) idle) f) ∙ is))
    go rest false f at is =
        passed t ws h hs at (serves d c) (ap (λ (b : Bool). cond b (turn_in t ws ∷ []) []) f) (ap (λ (b : Bool). cond b 1 0) f)
        (rest at (sym (ap (λ (b : Bool). get_or (cond b (turn_in t ws ∷ []) [] ++ ts) at idle) f) ∙ is))

-- ---- what the turn that serves a call returned

module _ (w : TurnWords) (o : TurnOutcome) (d : ℕ) (c : Call) (p : TurnPromise w o) (fine : o.code ≡ 0) (next : turn_in w.table w.state ≡ serves d c) where
  made : o ≡ turn_made w (serves d c)
  made = made-outcome w o p (eq-eqb _ 0 (sym (outcome-code w o p) ∙ fine)) ∙ ap (turn_made w) next

  one-served : o.served ≡ 1
  unfolding turn_made served_by
  one-served = ap (λ (y : TurnOutcome). y.served) made

  three-words : take 3 o.left.answer ≡ answer w.table c
  unfolding turn_made space_after
  three-words =
      ap (λ (y : TurnOutcome). take 3 y.left.answer) made ∙ take_at (answer w.table c) (drop 3 w.answer) 3 (answer-length w.table c)

-- ---- service, from that of the order

module _ {t ws : List ℕ} {hs : List WordEvent} {d : ℕ} {earlier : List Call} {c : Call} {later : List Call} (g : PendingIn t ws hs d earlier c later) where
  -- as many turns of the order as of the words
  enough : {m : ℕ} → m ≤ turns_done hs → m ≤ length (turns_of (record { table = t; turns = turns_in ws }) (map event_of hs))
  enough {m} h =
      let r = every-word-history t ws hs g.size g.promised in
      subst (λ (k : ℕ). m ≤ k) (r.done ∙ ap length r.made) h

  served-by-words : {m : ℕ} → ServedWithin m d earlier c (turns_of (record { table = t; turns = turns_in ws }) (map event_of hs)) → ServedInHistory t ws hs m d earlier c
  served-by-words {m} w =
      let made = (every-word-history t ws hs g.size g.promised).made in
      let l = located hs t ws w.at d c g.promised (ap (λ (ts : List Turn). get_or ts w.at idle) made ∙ w.serves) in
      record {
        before = l.before;
        holders = l.holders;
        space = l.space;
        outcome = l.outcome;
        after = l.after;
        there = l.there;
        soon = subst (λ (k : ℕ). k < m) (sym l.place) w.soon;
        first = ap (served_of d) (l.made ∙ ap (take w.at) made) ∙ w.first;
        next = l.next;
        code = l.code;
        one = one-served _ l.outcome d c l.promised l.code l.next;
        words = three-words _ l.outcome d c l.promised l.code l.next;
      }

pub served-in-time-by-words : ServedInTimeByWords
unfolding turns_in
served-in-time-by-words t ws hs d c later g h =
    served-by-words g (served-in-time (record { table = t; turns = turns_in ws }) (map event_of hs) d c later g.accepted g.below g.calls (enough g h))

pub every-call-served-by-words : EveryCallServedByWords
unfolding turns_in
every-call-served-by-words t ws hs d earlier c later g h =
    served-by-words g (every-call-served-in-time (record { table = t; turns = turns_in ws }) (map event_of hs) d earlier c later g.accepted g.below g.calls (enough g h))

-- a state's words have at most 16 pending of a domain
few-pending : (b : List ℕ) → length (pending_in b) ≤ most_pending
unfolding pending_in count
few-pending b = omega (arith, length-take (count b) (drop 1 b))

pub all-served-by-words : AllServedByWords
unfolding turns_in
all-served-by-words t ws hs d earlier c later g h =
    served-by-words g
    (all-served-in-time (record { table = t; turns = turns_in ws }) (map event_of hs) d earlier c later g.accepted g.below (few-pending (block ws d)) g.calls (enough g h))

-- ---- the holders that pass from event to event

-- a turn leaves what the table says, where it is lent that
turn-kept : (t ws holders space : List ℕ) (o : TurnOutcome) → TurnPromise (words t ws holders space) o → holders ≡ holders_of t → o.left.holders ≡ holders_of o.left.table
unfolding turn_made holders_after_turn table_after
turn-kept t ws holders space o p is = go (eqb (code_of w) 0) refl
  where
    w : TurnWords
    w = words t ws holders space

    after : (x : Turn) → holders_after_turn t x holders ≡ holders_of (table_after t x)
    after idle = is
    after (serves d c) = refl

    go : (b : Bool) → eqb (code_of w) 0 ≡ b → o.left.holders ≡ holders_of o.left.table
    go true h =
        ap (λ (y : TurnOutcome). y.left.holders) (made-outcome w o p h)
        ∙ after (turn_in t ws)
        ∙ sym (ap (λ (y : TurnOutcome). holders_of y.left.table) (made-outcome w o p h))
    go false h =
        ap (λ (y : TurnOutcome). y.left.holders) (refused-outcome w o p h)
        ∙ is
        ∙ sym (ap (λ (y : TurnOutcome). holders_of y.left.table) (refused-outcome w o p h))

kept-throughout : (t ws kept : List ℕ) (before after : List WordEvent) → kept ≡ holders_of t → AllAsPromised t ws (before ++ after) → AllLentKept kept (before ++ after)
    → holders_at kept before ≡ holders_of (table_at t before)
unfolding holders_at table_at holders_left table_left state_left
kept-throughout t ws kept [] after is p l = is
kept-throughout t ws kept (hands_in d vs code ws' ∷ before) after is p l = kept-throughout t ws' kept before after is p.1 l.1
kept-throughout t ws kept (turns holders space o ∷ before) after is p l =
    kept-throughout o.left.table o.left.state o.left.holders before after (turn-kept t ws holders space o p.0 (l.0 ∙ is)) p.1 l.1

pub holders-throughout : HoldersThroughout
holders-throughout t ws lent ws' kept before after begin p l = kept-throughout t ws' kept before after begin.same_holders p l
