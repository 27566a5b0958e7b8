-- What holds of a history of handing in and turns: the calls served are one list for the machine, each domain's calls are served in
-- order, and what a history from the beginning can make stays so (specs/Claims). Assumes nothing.
use mathlib.Core.Path.{◌≡◌, refl, sym, ap, subst, subst₂, ◌∙◌}
use mathlib.Core.Bool.{Bool, true, false, cond, not, ◌&&◌, true≢false, false≢true}
use mathlib.Core.Logic.{⊎_elim}
use mathlib.Core.List.{List, [], ◌∷◌, ◌++◌, append_assoc, append-nil}
use Prim.Native.Nat.{ℕ, suc, ◌+◌, ◌<◌, ◌≤◌}
use native.Mathlib.Omega.{arith}
use borrow.Author.Tests.{eqb-true, eq-eqb, ne_eqb, ltb-true, ltb-false, lt-ltb}
use lib.Dec.{eqb, ltb}
use lib.ListN.{length, drop, length-append, length-drop}
use Rattle.machine.specs.Table.{domains}
use Rattle.machine.specs.Check.{Accepted, table_code}
use Rattle.machine.specs.Call.{Call, caller_of, split}
use Rattle.machine.specs.Run as machine
use Rattle.machine.specs.DomainSet.{called_by}
use Rattle.machine.specs.RunClaims.{Noninterference}
use Rattle.machine.proofs.Bools.{and_left, and_right, and_intro}
use Rattle.machine.proofs.Step.{stays-accepted}
use Rattle.machine.proofs.Noninterference.{noninterference}
use Rattle.turns_theory.specs.Turns.{Turns, Turn, begun, replaced, is_one_of, hand_in_code, handed_in, width, after_turn, table_after, answer_of, Turn.idle, Turn.serves}
use Rattle.turns_theory.specs.Turns as turns
use Rattle.turns_theory.specs.History.{Layer, Event, event_code, next_turn, done, after_event, layer_after, along_with, turn_at, turns_of, answer_at, holders_of_turn, holders_at, calls_at, handed_in_by, served, served_of, holders_each, Event.hand_in, Event.turn}
use Rattle.turns_theory.specs.Claims.{AsOneList, EveryHistoryNoninterference, InOrder, IdleExactly, IdleChangesNothing, RefusedChangesNothing, all_of, ProperHistory, BeginsProper, StaysProper, serves_own, ServesOwn}
use Rattle.turns_theory.proofs.Pending.{no-cons, split-append, one-opens, Serving, turn-cases, replaced-all}

pub refused-changes-nothing : RefusedChangesNothing
unfolding after_event
refused-changes-nothing l e h = rw h

-- a turn that is idle serves nobody
pub not-idle : {d : ℕ} {c : Call} → serves d c ≡ idle → ⊥
not-idle p = true≢false (ap serves_one p)
  where
    serves_one : Turn → Bool
    serves_one idle = false
    serves_one (serves d c) = true

-- a domain that doesn't wait has no word pending
pub no_words : (s : Turns) (d : ℕ) → turns.waits s d ≡ false → s.pending d ≡ []
unfolding turns.waits
no_words s d h = go (s.pending d) h
  where
    go : (ws : List ℕ) → not (eqb (length ws) 0) ≡ false → ws ≡ []
    go [] h = refl
    go (w ∷ ws) h = absurd (true≢false (sym (ap not (ne_eqb (suc (length ws)) 0 (λ z. omega arith))) ∙ h))

pub idle-exactly : IdleExactly
unfolding split
idle-exactly n s =
    ⊎_elim (λ none. let (is, all) = none in (λ e d l. no_words s d (all d l), λ e. is))
    (λ some.
    let (d, c, is, it) = some in
    (λ e. absurd (not-idle (sym is ∙ e)), λ all. absurd (no-cons (ap split (sym (all d it.below)) ∙ it.front))))
    (turn-cases n s)

pub idle-changes-nothing : IdleChangesNothing
unfolding event_code after_event done next_turn turns.turn_code turns.answer_code table_after after_turn
idle-changes-nothing l space a none =
    let is = (idle-exactly (domains l.table) l.turns).1 none in
    rw (eq-eqb (table_code l.table) 0 a, eq-eqb (domains l.table) (domains l.table) refl, is) (refl, refl)

-- ---- as one list

-- one turn before others
turn-answers : (t : List ℕ) (x : Turn) (ts : List Turn) → answer_of t x ++ machine.answers (table_after t x) (served ts) ≡ machine.answers t (served (x ∷ ts))
unfolding answer_of table_after served machine.answers
turn-answers t idle ts = refl
turn-answers t (serves d c) ts = refl

turn-run : (t : List ℕ) (x : Turn) (ts : List Turn) → machine.run (table_after t x) (served ts) ≡ machine.run t (served (x ∷ ts))
unfolding table_after served machine.run
turn-run t idle ts = refl
turn-run t (serves d c) ts = refl

turn-holders : (t : List ℕ) (x : Turn) (ts : List Turn) → holders_of_turn t x ++ holders_each (table_after t x) (served ts) ≡ holders_each t (served (x ∷ ts))
unfolding holders_of_turn turns.holders_after_turn table_after served holders_each
turn-holders t idle ts = refl
turn-holders t (serves d c) ts = refl

-- what an event leaves and shows before others: the layer x, its turns, answers and holders
record Shown (l : Layer) (e : Event) (x : Layer) (ts : List Turn) (ws : List ℕ) (hs : List (List ℕ)) : Type 0 where
  answers : (rest : List Turn) → ws ++ machine.answers x.table (served rest) ≡ machine.answers l.table (served (ts ++ rest))
  table : (rest : List Turn) → machine.run x.table (served rest) ≡ machine.run l.table (served (ts ++ rest))
  holders : (rest : List Turn) → hs ++ holders_each x.table (served rest) ≡ holders_each l.table (served (ts ++ rest))

shown-done : (l : Layer) (e : Event) → Shown l e (done l e) (turn_at l e) (answer_at l e) (holders_at l e)
unfolding done turn_at answer_at holders_at
shown-done l (hand_in d ws) = record { answers = λ rest. refl; table = λ rest. refl; holders = λ rest. refl }
shown-done l (turn space lent) =
    record {
      answers = turn-answers l.table (next_turn l);
      table = turn-run l.table (next_turn l);
      holders = turn-holders l.table (next_turn l);
    }

shown : (l : Layer) (e : Event) (b : Bool) → Shown l e (cond b (done l e) l) (cond b (turn_at l e) []) (cond b (answer_at l e) []) (cond b (holders_at l e) [])
shown l e true = shown-done l e
shown l e false = record { answers = λ rest. refl; table = λ rest. refl; holders = λ rest. refl }

pub as-one-list : AsOneList
unfolding layer_after after_event along_with served machine.answers machine.run holders_each
as-one-list l [] = record { answers = refl; table = refl; holders = refl }
as-one-list l (e ∷ es) =
    let r = as-one-list (after_event l e) es in
    let s = shown l e (eqb (event_code l e) 0) in
    record {
      answers = ap (λ (ws : List ℕ). cond (eqb (event_code l e) 0) (answer_at l e) [] ++ ws) r.answers ∙ s.answers _;
      table = r.table ∙ s.table _;
      holders = ap (λ (hs : List (List ℕ)). cond (eqb (event_code l e) 0) (holders_at l e) [] ++ hs) r.holders ∙ s.holders _;
    }

pub history-noninterference : EveryHistoryNoninterference
history-noninterference l es a =
    let one = as-one-list l es in
    let cs = served (turns_of l es) in
    subst₂ (λ (ws end : List ℕ). Noninterference l.table cs ws end)
    (append-nil (machine.answers l.table cs) ∙ sym one.answers)
    (sym one.table)
    (noninterference l.table cs [] a)

-- ---- what handing in accepts

-- The words are accepted: the table is accepted, the domain is below n, the words are one call of it, and there is room for them.
pub record LetIn (t : List ℕ) (s : Turns) (d : ℕ) (ws : List ℕ) : Type 0 where
  pub accepted : Accepted t
  pub below : d < domains t
  pub one_call : is_one_of d (split ws) ≡ true
  pub room : length (s.pending d) + length ws ≤ turns.most_pending

pub let-in : (t : List ℕ) (s : Turns) (d : ℕ) (ws : List ℕ) → eqb (hand_in_code t s d ws) 0 ≡ true → LetIn t s d ws
unfolding hand_in_code
let-in t s d ws h =
    go (eqb (table_code t) 0) (ltb d (domains t)) (is_one_of d (split ws)) (ltb turns.most_pending (length (s.pending d) + length ws)) refl refl refl refl h
  where
    go : (a b one full : Bool) → eqb (table_code t) 0 ≡ a → ltb d (domains t) ≡ b → is_one_of d (split ws) ≡ one → ltb turns.most_pending (length (s.pending d) + length ws) ≡ full
        → eqb (cond (not a) (table_code t) (cond (not b) 35 (cond (not one) 36 (cond full 37 0)))) 0 ≡ true
        → LetIn t s d ws
    go true true true false e f g k h =
        record { accepted = eqb-true _ _ e; below = ltb-true _ _ f; one_call = g; room = ltb-false _ _ k }
    go true true true true e f g k h = absurd (false≢true h)
    go true true false full e f g k h = absurd (false≢true h)
    go true false one full e f g k h = absurd (false≢true h)
    go false b one full e f g k h = absurd (false≢true (sym e ∙ h))

-- ---- in order

-- the calls of d served by turns before others
served-append : (d : ℕ) (ts rest : List Turn) → served_of d (ts ++ rest) ≡ served_of d ts ++ served_of d rest
unfolding served_of
served-append d [] rest = refl
served-append d (idle ∷ ts) rest = served-append d ts rest
served-append d (serves e c ∷ ts) rest = go (eqb e d) (served-append d ts rest)
  where
    go : (b : Bool) → served_of d (ts ++ rest) ≡ served_of d ts ++ served_of d rest
        → cond b (c ∷ served_of d (ts ++ rest)) (served_of d (ts ++ rest)) ≡ cond b (c ∷ served_of d ts) (served_of d ts) ++ served_of d rest
    go true h = ap (λ (cs : List Call). c ∷ cs) h
    go false h = h

-- words handed in are appended to those pending
pub handed-order : (l : Layer) (e : ℕ) (ws : List ℕ) (d : ℕ) → is_one_of e (split ws) ≡ true → split ((handed_in l.turns e ws).pending d) ≡ split (l.turns.pending d) ++ cond (eqb e d) (split ws) []
unfolding handed_in replaced
handed-order l e ws d one = go (eqb e d) refl
  where
    go : (b : Bool) → eqb e d ≡ b → split (cond b (l.turns.pending e ++ ws) (l.turns.pending d)) ≡ split (l.turns.pending d) ++ cond b (split ws) []
    go true is =
        split-append (l.turns.pending e) ws (one-opens e ws one)
        ∙ ap (λ (x : ℕ). split (l.turns.pending x) ++ split ws) (eqb-true e d is)
    go false is = sym (append-nil _)

-- a turn removes the oldest call of the domain that it serves
turn-order : (l : Layer) (d : ℕ) → served_of d (next_turn l ∷ []) ++ split ((after_turn l.turns (next_turn l)).pending d) ≡ split (l.turns.pending d)
unfolding next_turn after_turn served_of replaced
turn-order l d =
    ⊎_elim
    (λ none. rw none.0)
    (λ some. let (e, c, is, it) = some in rw is (go e c it.front (eqb e d) refl))
    (turn-cases (domains l.table) l.turns)
  where
    go : (e : ℕ) (c : Call) → split (l.turns.pending e) ≡ c ∷ split (drop (width c) (l.turns.pending e)) → (b : Bool) → eqb e d ≡ b
        → cond b (c ∷ []) [] ++ split (cond b (drop (width c) (l.turns.pending e)) (l.turns.pending d)) ≡ split (l.turns.pending d)
    go e c front true is = sym front ∙ ap (λ (x : ℕ). split (l.turns.pending x)) (eqb-true e d is)
    go e c front false is = refl

-- one event
event-order : (l : Layer) (e : Event) (d : ℕ) → eqb (event_code l e) 0 ≡ true → served_of d (turn_at l e) ++ split ((done l e).turns.pending d) ≡ split (l.turns.pending d) ++ calls_at d l e
unfolding event_code turn_at done calls_at served_of
event-order l (hand_in e ws) d h = handed-order l e ws d (let-in l.table l.turns e ws h).one_call
event-order l (turn space lent) d h = turn-order l d ∙ sym (append-nil _)

pub in_order : InOrder
unfolding layer_after after_event along_with served_of
in_order l [] d = sym (append-nil _)
in_order l (e ∷ es) d = go (eqb (event_code l e) 0) refl (in_order (after_event l e) es d)
  where
    go : (b : Bool) → eqb (event_code l e) 0 ≡ b
        → served_of d (turns_of (cond b (done l e) l) es) ++ split ((layer_after (cond b (done l e) l) es).turns.pending d) ≡ split ((cond b (done l e) l).turns.pending d) ++ handed_in_by d (cond b (done l e) l) es
        → served_of d (cond b (turn_at l e) [] ++ turns_of (cond b (done l e) l) es) ++ split ((layer_after (cond b (done l e) l) es).turns.pending d)
        ≡ split (l.turns.pending d) ++ (cond b (calls_at d l e) [] ++ handed_in_by d (cond b (done l e) l) es)
    go true h later =
        ap (λ (cs : List Call). cs ++ split ((layer_after (done l e) es).turns.pending d)) (served-append d (turn_at l e) (turns_of (done l e) es))
        ∙ append_assoc (served_of d (turn_at l e)) _ _
        ∙ ap (λ (cs : List Call). served_of d (turn_at l e) ++ cs) later
        ∙ sym (append_assoc (served_of d (turn_at l e)) _ _)
        ∙ ap (λ (cs : List Call). cs ++ handed_in_by d (done l e) es) (event-order l e d h)
        ∙ append_assoc (split (l.turns.pending d)) _ _
    go false h later = later

-- ---- what stays

-- An accepted table of n domains.
pub record Steady (n : ℕ) (t : List ℕ) : Type 0 where
  pub accepted : Accepted t
  pub count : domains t ≡ n

steady-turn : {n : ℕ} (t : List ℕ) (x : Turn) → Steady n t → Steady n (table_after t x)
unfolding table_after
steady-turn t idle s = s
steady-turn t (serves d c) s =
    let kept = stays-accepted t c s.accepted in
    record { accepted = kept.accepted; count = kept.frame.same_domains ∙ s.count }

pub steady-done : {n : ℕ} (l : Layer) (e : Event) → Steady n l.table → Steady n (done l e).table
unfolding done
steady-done l (hand_in d ws) s = s
steady-done l (turn space lent) s = steady-turn l.table (next_turn l) s

-- ---- what a history from the beginning can make

pub begins-proper : BeginsProper
unfolding begun all_of split
begins-proper n = record { own = λ d l. refl; few = λ d l. omega arith; others = λ d l. refl; place = omega arith }

all_append : (d : ℕ) (cs ks : List Call) → all_of d cs ≡ true → all_of d ks ≡ true → all_of d (cs ++ ks) ≡ true
unfolding all_of
all_append d [] ks h k = k
all_append d (c ∷ cs) ks h k = and_intro (and_left (called_by d (caller_of c)) (all_of d cs) h) (all_append d cs ks (and_right (called_by d (caller_of c)) (all_of d cs) h) k)

all_rest : (d : ℕ) (c : Call) (cs : List Call) → all_of d (c ∷ cs) ≡ true → all_of d cs ≡ true
unfolding all_of
all_rest d c cs h = and_right (called_by d (caller_of c)) _ h

all_first : (d : ℕ) (c : Call) (cs : List Call) → all_of d (c ∷ cs) ≡ true → called_by d (caller_of c) ≡ true
unfolding all_of
all_first d c cs h = and_left _ _ h

one-all : (d : ℕ) (cs : List Call) → is_one_of d cs ≡ true → all_of d cs ≡ true
unfolding is_one_of all_of
one-all d [] h = refl
one-all d (c ∷ []) h = and_intro h refl
one-all d (c ∷ next ∷ cs) h = absurd (false≢true h)

handed-proper : (n : ℕ) (s : Turns) (d : ℕ) (ws : List ℕ) → ProperHistory n s → d < n → is_one_of d (split ws) ≡ true → length (s.pending d) + length ws ≤ turns.most_pending → ProperHistory n (handed_in s d ws)
unfolding handed_in
handed-proper n s d ws p below one room =
    record {
      own =
          λ e.
          replaced-all (λ x vs. x < n → all_of x (split vs) ≡ true) s.pending d (s.pending d ++ ws) e
          (λ l. ap (all_of d) (split-append (s.pending d) ws (one-opens d ws one)) ∙ all_append d _ _ (p.own d l) (one-all d (split ws) one))
          (p.own e);
      few =
          λ e.
          replaced-all (λ x vs. x < n → length vs ≤ turns.most_pending) s.pending d (s.pending d ++ ws) e
          (λ l. rw (length-append (s.pending d) ws) room)
          (p.few e);
      others =
          λ e.
          replaced-all (λ x vs. n ≤ x → vs ≡ []) s.pending d (s.pending d ++ ws) e
          (λ l. absurd (omega (arith, l, below)))
          (p.others e);
      place = p.place;
    }

served-proper : (n : ℕ) (s : Turns) (d : ℕ) (c : Call) → ProperHistory n s → Serving n s d c → ProperHistory n (after_turn s (serves d c))
unfolding after_turn
served-proper n s d c p it =
    record {
      own =
          λ e.
          replaced-all (λ x vs. x < n → all_of x (split vs) ≡ true) s.pending d (drop (width c) (s.pending d)) e
          (λ l. all_rest d c _ (ap (all_of d) (sym it.front) ∙ p.own d l))
          (p.own e);
      few =
          λ e.
          replaced-all (λ x vs. x < n → length vs ≤ turns.most_pending) s.pending d (drop (width c) (s.pending d)) e
          (λ l. let z = length-drop (width c) (s.pending d) in let q = p.few d l in rw z (omega arith))
          (p.few e);
      others =
          λ e.
          replaced-all (λ x vs. n ≤ x → vs ≡ []) s.pending d (drop (width c) (s.pending d)) e
          (λ l. absurd (omega (arith, l, it.below)))
          (p.others e);
      place = let b = it.below in omega arith;
    }

-- A history in progress: an accepted table of n domains, and what a history can make.
record Sound (n : ℕ) (l : Layer) : Type 0 where
  steady : Steady n l.table
  proper : ProperHistory n l.turns

proper-turn : (n : ℕ) (l : Layer) → Sound n l → ProperHistory n (after_turn l.turns (next_turn l))
unfolding next_turn after_turn
proper-turn n l s =
    ⊎_elim
    (λ none. subst (λ (x : Turn). ProperHistory n (after_turn l.turns x)) (sym none.0) s.proper)
    (λ some.
    let (d, c, is, it) = some in
    subst (λ (x : Turn). ProperHistory n (after_turn l.turns x)) (sym is)
    (served-proper n l.turns d c s.proper (subst (λ (k : ℕ). Serving k l.turns d c) s.steady.count it)))
    (turn-cases (domains l.table) l.turns)

proper-done : (n : ℕ) (l : Layer) (e : Event) → eqb (event_code l e) 0 ≡ true → Sound n l → ProperHistory n (done l e).turns
unfolding event_code done
proper-done n l (hand_in d ws) h s =
    let in' = let-in l.table l.turns d ws h in
    handed-proper n l.turns d ws s.proper (subst (λ (k : ℕ). d < k) s.steady.count in'.below) in'.one_call in'.room
proper-done n l (turn space lent) h s = proper-turn n l s

sound-event : (n : ℕ) (l : Layer) (e : Event) → Sound n l → Sound n (after_event l e)
unfolding after_event
sound-event n l e s = go (eqb (event_code l e) 0) refl
  where
    go : (b : Bool) → eqb (event_code l e) 0 ≡ b → Sound n (cond b (done l e) l)
    go true h = record { steady = steady-done l e s.steady; proper = proper-done n l e h s }
    go false h = s

sound-history : (n : ℕ) (es : List Event) (l : Layer) → Sound n l → Sound n (layer_after l es)
unfolding layer_after
sound-history n [] l s = s
sound-history n (e ∷ es) l s = sound-history n es (after_event l e) (sound-event n l e s)

pub stays-proper : StaysProper
stays-proper l es a p = (sound-history (domains l.table) es l (record { steady = record { accepted = a; count = refl }; proper = p })).proper

-- ---- a domain's own calls

own_turn : (n : ℕ) (l : Layer) → Sound n l → serves_own n (next_turn l ∷ []) ≡ true
unfolding next_turn serves_own
own_turn n l s =
    ⊎_elim
    (λ none. rw none.0)
    (λ some.
    let (d, c, is, it) = some in
    let below = subst (λ (k : ℕ). d < k) s.steady.count it.below in
    rw is
    (and_intro (and_intro (lt-ltb d n below) (all_first d c _ (ap (all_of d) (sym it.front) ∙ s.proper.own d below))) refl))
    (turn-cases (domains l.table) l.turns)

own-append : (n : ℕ) (ts rest : List Turn) → serves_own n ts ≡ true → serves_own n rest ≡ true → serves_own n (ts ++ rest) ≡ true
unfolding serves_own
own-append n [] rest h k = k
own-append n (idle ∷ ts) rest h k = own-append n ts rest h k
own-append n (serves d c ∷ ts) rest h k =
    let own = ltb d n && called_by d (caller_of c) in
    and_intro (and_left own (serves_own n ts) h) (own-append n ts rest (and_right own (serves_own n ts) h) k)

own-event : (n : ℕ) (l : Layer) (e : Event) → Sound n l → serves_own n (turn_at l e) ≡ true
unfolding turn_at serves_own
own-event n l (hand_in d ws) s = refl
own-event n l (turn space lent) s = own_turn n l s

own-history : (n : ℕ) (es : List Event) (l : Layer) → Sound n l → serves_own n (turns_of l es) ≡ true
unfolding along_with serves_own
own-history n [] l s = refl
own-history n (e ∷ es) l s =
    own-append n (cond (eqb (event_code l e) 0) (turn_at l e) []) (turns_of (after_event l e) es) (go (eqb (event_code l e) 0))
    (own-history n es (after_event l e) (sound-event n l e s))
  where
    go : (b : Bool) → serves_own n (cond b (turn_at l e) []) ≡ true
    go true = own-event n l e s
    go false = refl

pub serves-own : ServesOwn
serves-own l es a p = own-history (domains l.table) es l (record { steady = record { accepted = a; count = refl }; proper = p })
