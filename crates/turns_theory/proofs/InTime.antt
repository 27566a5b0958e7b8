-- The oldest pending call of a domain is served within n turns that aren't refused, and each after it within n more (specs/Claims):
-- each turn that serves another domain leaves fewer domains ahead, and each that serves this one, fewer calls. Assumes nothing.
use mathlib.Core.Path.{◌≡◌, refl, sym, ap, ap₂, subst, ◌∙◌}
use mathlib.Core.Bool.{Bool, true, false, cond, not, true≢false}
use mathlib.Core.Logic.{◌⊎◌, ⊎_elim, ◌⊎◌.inl, ◌⊎◌.inr}
use mathlib.Core.List.{List, [], ◌∷◌, ◌++◌, append_assoc}
use Prim.Native.Nat.{ℕ, zero, suc, ◌+◌, ◌-◌, ◌*◌, ◌<◌, ◌≤◌}
use native.Mathlib.Decide.{dec_lt}
use native.Mathlib.Nat.{mul-le-mul_right}
use native.Mathlib.Omega.{arith}
use borrow.Author.Tests.{eqb-true, eqb-false, eq-eqb, ne_eqb, le-leb, lt-leb}
use lib.Dec.{eqb, leb}
use lib.ListN.{length, drop, length-append}
use Rattle.machine.specs.Table.{domains}
use Rattle.machine.specs.Call.{Call, split}
use Rattle.machine.proofs.Split.{split-few}
use Rattle.turns_theory.specs.Turns.{Turns, Turn, most_pending, handed_in, waits, turn_of, width, after_turn, Turn.serves}
use Rattle.turns_theory.specs.History.{Layer, Event, event_code, next_turn, done, after_event, along_with, turn_at, turns_of, served_of, Event.hand_in, Event.turn}
use Rattle.turns_theory.specs.Claims.{ServedWithin, ServedInTime, EveryCallServedInTime, AllServedInTime}
use Rattle.turns_theory.proofs.Pending.{cons_same, no-cons, Serving, turn-cases, replaced-else, replaced-here}
use Rattle.turns_theory.proofs.Histories.{let-in, handed-order, Steady, steady-done}

-- how many domains are searched before d, from a place on, upward and then from 0
unfoldable pub ahead : ℕ → ℕ → ℕ → ℕ
ahead n place d = cond (leb place d) (d - place) (d + (n - place))

ahead-up : (n place d : ℕ) → place ≤ d → ahead n place d ≡ d - place
unfolding ahead
ahead-up n place d l = rw (le-leb place d l)

ahead-round : (n place d : ℕ) → d < place → ahead n place d ≡ d + (n - place)
unfolding ahead
ahead-round n place d l = rw (lt-leb place d l)

ahead-few : (n place d : ℕ) → d < n → ahead n place d < n
ahead-few n place d l = go (dec_lt d place)
  where
    go : Dec (d < place) → ahead n place d < n
    go (yes b) = rw (ahead-round n place d b) (omega arith)
    go (no b) = rw (ahead-up n place d (omega arith)) (omega arith)

-- after a turn that serves another domain, fewer are before d
nearer : (n : ℕ) (s : Turns) (e : ℕ) (c : Call) (d : ℕ) → Serving n s e c → d < n → waits s d ≡ true → eqb e d ≡ false → ahead n (e + 1) d < ahead n s.place d
nearer n s e c d it l w other = go (dec_lt d s.place) it.order
  where
    differs : e ≡ d → ⊥
    differs = eqb-false e d other

    go :
        Dec (d < s.place)
        → ((s.place ≤ e) × ((x : ℕ) → s.place ≤ x → x < e → waits s x ≡ false))
        ⊎ (((x : ℕ) → s.place ≤ x → x < n → waits s x ≡ false) × ((x : ℕ) → x < e → waits s x ≡ false))
        → ahead n (e + 1) d < ahead n s.place d
    go (yes b) (inl (at, before)) =
        let f = it.below in
        rw (ahead-round n s.place d b, ahead-round n (e + 1) d (omega arith)) (omega arith)
    go (no b) (inl (at, before)) = beyond (dec_lt d e)
      where
        beyond : Dec (d < e) → ahead n (e + 1) d < ahead n s.place d
        beyond (yes k) = absurd (true≢false (sym w ∙ before d (omega arith) k))
        beyond (no k) = rw (ahead-up n s.place d (omega arith), ahead-up n (e + 1) d (omega (arith, differs))) (omega (arith, differs))
    go (yes b) (inr (later, before)) = beyond (dec_lt d e)
      where
        beyond : Dec (d < e) → ahead n (e + 1) d < ahead n s.place d
        beyond (yes k) = absurd (true≢false (sym w ∙ before d k))
        beyond (no k) = rw (ahead-round n s.place d b, ahead-up n (e + 1) d (omega (arith, differs))) (omega (arith, differs))
    go (no b) (inr (later, before)) = absurd (true≢false (sym w ∙ later d (omega arith) l))

-- a domain with a call waits
waits-call : (s : Turns) (d : ℕ) (c : Call) (cs : List Call) → split (s.pending d) ≡ c ∷ cs → waits s d ≡ true
unfolding waits split
waits-call s d c cs h = go (s.pending d) h
  where
    go : (ws : List ℕ) → split ws ≡ c ∷ cs → not (eqb (length ws) 0) ≡ true
    go [] h = absurd (no-cons h)
    go (w ∷ ws) h = rw (ne_eqb (suc (length ws)) 0 (λ z. omega arith))

-- so does one whose calls are others and then c
waits-pending : (s : Turns) (d : ℕ) (earlier : List Call) (c : Call) (later : List Call) → split (s.pending d) ≡ earlier ++ (c ∷ later) → waits s d ≡ true
waits-pending s d [] c later is = waits-call s d c later is
waits-pending s d (e ∷ earlier) c later is = waits-call s d e (earlier ++ (c ∷ later)) is

-- a turn that serves another domain before turns among which c is served
another : (m d : ℕ) (earlier : List Call) (c : Call) (e : ℕ) (x : Call) (ts : List Turn) → eqb e d ≡ false → ServedWithin m d earlier c ts
    → ServedWithin (suc m) d earlier c (serves e x ∷ ts)
unfolding served_of
another m d earlier c e x ts other w =
    record { at = suc w.at; soon = omega (arith, w.soon); serves = w.serves; first = rw other w.first }

-- a turn that serves the oldest call of d before turns among which c is served
own : (m d : ℕ) (e : Call) (earlier : List Call) (c x : Call) (ts : List Turn) → x ≡ e → ServedWithin m d earlier c ts
    → ServedWithin (suc m) d (e ∷ earlier) c (serves d x ∷ ts)
unfolding served_of
own m d e earlier c x ts same w =
    record {
      at = suc w.at;
      soon = omega (arith, w.soon);
      serves = w.serves;
      first = rw (eq-eqb d d refl) (ap₂ (λ (y : Call) (ys : List Call). y ∷ ys) same w.first);
    }

module _ (n d : ℕ) (below : d < n) (c : Call) where
  -- what is claimed of the events es, from every accepted table of n domains in which the calls earlier of d and then c are pending,
  -- and with m turns where the domains ahead, and n for each of the calls earlier, are fewer than m
  abbrev InTimeAlong : List Event → Type 0
  InTimeAlong es =
      (l : Layer) (earlier later : List Call) (m : ℕ)
      → Steady n l.table
      → split (l.turns.pending d) ≡ earlier ++ (c ∷ later)
      → ahead n l.turns.place d + length earlier * n < m
      → m ≤ length (turns_of l es)
      → ServedWithin m d earlier c (turns_of l es)

  -- a turn that serves d: its call is c, or the oldest of those before c, and then n - 1 domains are ahead
  at_own : (es : List Event) → InTimeAlong es → (l : Layer) (earlier later : List Call) (m space lent : ℕ) (x : Call)
      → Steady n l.table → turn_of (domains l.table) l.turns ≡ serves d x → Serving n l.turns d x
      → split (l.turns.pending d) ≡ earlier ++ (c ∷ later) → ahead n l.turns.place d + length earlier * n < suc m
      → m ≤ length (turns_of (done l (turn space lent)) es)
      → ServedWithin (suc m) d earlier c (serves d x ∷ turns_of (done l (turn space lent)) es)
  unfolding next_turn done after_turn served_of
  at_own es rest l [] later m space lent x s turns it is near enough =
      record { at = 0; soon = omega arith; serves = ap (serves d) (cons_same (sym it.front ∙ is)).0; first = refl }
  at_own es rest l (e ∷ earlier) later m space lent x s turns it is near enough =
      let next = done l (turn space lent) in
      let front = cons_same (sym it.front ∙ is) in
      let place : next.turns.place ≡ d + 1 = ap (λ (y : Turn). (after_turn l.turns y).place) turns in
      let words : next.turns.pending d ≡ drop (width x) (l.turns.pending d) = ap (λ (y : Turn). (after_turn l.turns y).pending d) turns ∙ replaced-here l.turns.pending d _ in
      let round : ahead n (d + 1) d ≡ d + (n - (d + 1)) = ahead-round n (d + 1) d (omega arith) in
      let closer : ahead n (d + 1) d + length earlier * n < m = rw round (omega (arith, near, below)) in
      own m d e earlier c x (turns_of next es) front.0
      (rest next earlier later m (steady-done l (turn space lent) s) (ap split words ∙ front.1)
      (subst (λ (p : ℕ). ahead n p d + length earlier * n < m) (sym place) closer) enough)

  -- a turn that serves another domain: then fewer are ahead
  at_other : (es : List Event) → InTimeAlong es → (l : Layer) (earlier later : List Call) (m space lent e : ℕ) (x : Call)
      → Steady n l.table → turn_of (domains l.table) l.turns ≡ serves e x → Serving n l.turns e x → eqb e d ≡ false
      → split (l.turns.pending d) ≡ earlier ++ (c ∷ later) → ahead n l.turns.place d + length earlier * n < suc m
      → m ≤ length (turns_of (done l (turn space lent)) es)
      → ServedWithin (suc m) d earlier c (serves e x ∷ turns_of (done l (turn space lent)) es)
  unfolding next_turn done after_turn
  at_other es rest l earlier later m space lent e x s turns it other is near enough =
      let next = done l (turn space lent) in
      let place : next.turns.place ≡ e + 1 = ap (λ (y : Turn). (after_turn l.turns y).place) turns in
      let words : next.turns.pending d ≡ l.turns.pending d = ap (λ (y : Turn). (after_turn l.turns y).pending d) turns ∙ replaced-else l.turns.pending e _ d other in
      let w = waits-pending l.turns d earlier c later is in
      let closer : ahead n (e + 1) d + length earlier * n < m = omega (arith, near, nearer n l.turns e x d it below w other) in
      another m d earlier c e x (turns_of next es) other
      (rest next earlier later m (steady-done l (turn space lent) s) (ap split words ∙ is)
      (subst (λ (p : ℕ). ahead n p d + length earlier * n < m) (sym place) closer) enough)

  -- a turn: it serves d, or another domain
  at_turn : (es : List Event) → InTimeAlong es → (l : Layer) (earlier later : List Call) (m space lent : ℕ)
      → Steady n l.table → split (l.turns.pending d) ≡ earlier ++ (c ∷ later) → ahead n l.turns.place d + length earlier * n < m
      → m ≤ length (next_turn l ∷ turns_of (done l (turn space lent)) es)
      → ServedWithin m d earlier c (next_turn l ∷ turns_of (done l (turn space lent)) es)
  unfolding next_turn
  at_turn es rest l earlier later zero space lent s is near enough = absurd (omega arith)
  at_turn es rest l earlier later (suc m) space lent s is near enough =
      ⊎_elim
      (λ none. absurd (true≢false (sym (waits-pending l.turns d earlier c later is) ∙ none.1 d (subst (λ (k : ℕ). d < k) (sym s.count) below))))
      (λ some. let (e, x, turns, it) = some in go e x turns (subst (λ (k : ℕ). Serving k l.turns e x) s.count it) (eqb e d) refl)
      (turn-cases (domains l.table) l.turns)
    where
      go : (e : ℕ) (x : Call) → turn_of (domains l.table) l.turns ≡ serves e x → Serving n l.turns e x → (b : Bool) → eqb e d ≡ b
          → ServedWithin (suc m) d earlier c (turn_of (domains l.table) l.turns ∷ turns_of (done l (turn space lent)) es)
      go e x turns it true same =
          let is-d = eqb-true e d same in
          let turns-d = turns ∙ ap (λ (y : ℕ). serves y x) is-d in
          subst (λ (y : Turn). ServedWithin (suc m) d earlier c (y ∷ turns_of (done l (turn space lent)) es)) (sym turns-d)
          (at_own es rest l earlier later m space lent x s turns-d (subst (λ (y : ℕ). Serving n l.turns y x) is-d it) is near (omega (arith, enough)))
      go e x turns it false other =
          subst (λ (y : Turn). ServedWithin (suc m) d earlier c (y ∷ turns_of (done l (turn space lent)) es)) (sym turns)
          (at_other es rest l earlier later m space lent e x s turns it other is near (omega (arith, enough)))

  -- handing in: the calls before c stay before it, and the place stays
  at-hand-in : (es : List Event) → InTimeAlong es → (l : Layer) (earlier later : List Call) (m x : ℕ) (ws : List ℕ)
      → eqb (event_code l (hand_in x ws)) 0 ≡ true
      → Steady n l.table → split (l.turns.pending d) ≡ earlier ++ (c ∷ later) → ahead n l.turns.place d + length earlier * n < m
      → m ≤ length (turns_of (done l (hand_in x ws)) es)
      → ServedWithin m d earlier c (turns_of (done l (hand_in x ws)) es)
  unfolding event_code done handed_in
  at-hand-in es rest l earlier later m x ws h s is near =
      let one = (let-in l.table l.turns x ws h).one_call in
      let more = cond (eqb x d) (split ws) [] in
      rest (done l (hand_in x ws)) earlier (later ++ more) m (steady-done l (hand_in x ws) s)
      (handed-order l x ws d one ∙ ap (λ (ks : List Call). ks ++ more) is ∙ append_assoc earlier (c ∷ later) more)
      near

  -- one event, and others after it
  at-event : (e : Event) (es : List Event) → InTimeAlong es → InTimeAlong (e ∷ es)
  unfolding along_with after_event turn_at
  at-event e es rest l earlier later m s is near = go e (eqb (event_code l e) 0) refl
    where
      go : (e : Event) (b : Bool) → eqb (event_code l e) 0 ≡ b
          → m ≤ length (cond b (turn_at l e) [] ++ turns_of (cond b (done l e) l) es)
          → ServedWithin m d earlier c (cond b (turn_at l e) [] ++ turns_of (cond b (done l e) l) es)
      go e false h = rest l earlier later m s is near
      go (hand_in x ws) true h = at-hand-in es rest l earlier later m x ws h s is near
      go (turn space lent) true h = at_turn es rest l earlier later m space lent s is near

  in-time : (es : List Event) → InTimeAlong es
  unfolding along_with
  in-time [] = λ l earlier later m s is near enough. absurd (omega (arith, near, enough))
  in-time (e ∷ es) = at-event e es (in-time es)

pub every-call-served-in-time : EveryCallServedInTime
every-call-served-in-time l es d earlier c later a below is enough =
    in-time (domains l.table) d below c es l earlier later ((1 + length earlier) * domains l.table) (record { accepted = a; count = refl }) is
    (omega (arith, ahead-few _ l.turns.place d below))
    enough

pub served-in-time : ServedInTime
served-in-time l es d c cs a below is enough =
    in-time (domains l.table) d below c es l [] cs (domains l.table) (record { accepted = a; count = refl }) is
    (omega (arith, ahead-few _ l.turns.place d below))
    enough

-- with more turns, it is served within more
longer : {m d : ℕ} {earlier : List Call} {c : Call} {ts : List Turn} (k : ℕ) → m ≤ k → ServedWithin m d earlier c ts → ServedWithin k d earlier c ts
longer k more w = record { at = w.at; soon = omega (arith, more, w.soon); serves = w.serves; first = w.first }

pub all-served-in-time : AllServedInTime
all-served-in-time l es d earlier c later a below few is enough =
    let calls : 1 + length earlier ≤ most_pending = omega (arith, few, split-few (l.turns.pending d), ap length is ∙ length-append earlier (c ∷ later)) in
    let turns = mul-le-mul_right (domains l.table) calls in
    longer _ turns (every-call-served-in-time l es d earlier c later a below is (omega (arith, turns, enough)))
