-- Whom a turn serves, where the next one starts, and that words of served calls are used again (specs/Claims). Assumes nothing.
use mathlib.Core.Path.{◌≡◌, refl, sym, ap, subst, ◌∙◌}
use mathlib.Core.Bool.{Bool, true, false, cond, not, ◌&&◌, ◌||◌}
use mathlib.Core.Logic.{◌⊎◌, ⊎_elim, ◌⊎◌.inl, ◌⊎◌.inr}
use mathlib.Core.List.{List, [], ◌∷◌, ◌++◌}
use Prim.Native.Nat.{ℕ, ◌+◌, ◌<◌, ◌≤◌}
use native.Mathlib.Decide.{dec_lt}
use native.Mathlib.Omega.{arith}
use borrow.Author.Tests.{eqb-true, eq-eqb, le-leb, lt-leb, leb-true, ltb-true, lt-ltb, le-ltb}
use lib.Dec.{eqb, leb, ltb}
use lib.ListN.{length, drop, length-drop}
use Rattle.machine.specs.Table.{domains}
use Rattle.machine.specs.Check.{Accepted, table_code}
use Rattle.machine.specs.Call.{Call, split}
use Rattle.machine.specs.Machine.{step}
use Rattle.machine.proofs.Step.{stays-accepted}
use Rattle.machine.proofs.Bools.{and_left, and_right, and_intro, or_cases, or_right}
use Rattle.turns_theory.specs.Turns.{Turns, Turn, most_pending, begun, hand_in_code, handed_in, turn_code, width, after_turn, table_after, turn_of, waits, Turn.idle, Turn.serves}
use Rattle.turns_theory.specs.History.{Layer, Event, event_code, next_turn, done, after_event, layer_after, along_with, turn_at, turns_of, Event.hand_in, Event.turn}
use Rattle.turns_theory.specs.Claims.{comes_before, NextServed, ServesFirst, place_after, StartsAfterLast, ServedWordsUsedAgain}
use Rattle.turns_theory.proofs.Pending.{cons_same, no-cons, Serving, turn-cases, replaced-here}
use Rattle.turns_theory.proofs.Histories.{not-idle, no_words, LetIn}

-- ---- who comes before whom

before-up : (place e d : ℕ) → place ≤ d → comes_before place e d ≡ (leb place e && ltb e d)
unfolding comes_before
before-up place e d l = rw (le-leb place d l)

before-round : (place e d : ℕ) → d < place → comes_before place e d ≡ (leb place e || ltb e d)
unfolding comes_before
before-round place e d l = rw (lt-leb place d l)

-- one that comes before d is from the place on and before d; or, where d is before the place, it is one of these
before-cases : (place e d : ℕ) → comes_before place e d ≡ true → ((place ≤ e) × (e < d)) ⊎ ((d < place) × ((place ≤ e) ⊎ (e < d)))
before-cases place e d h = go (dec_lt d place)
  where
    go : Dec (d < place) → ((place ≤ e) × (e < d)) ⊎ ((d < place) × ((place ≤ e) ⊎ (e < d)))
    go (yes l) =
        inr (l, ⊎_elim (λ a. inl (leb-true _ _ a)) (λ b. inr (ltb-true _ _ b)) (or_cases (leb place e) (ltb e d) (sym (before-round place e d l) ∙ h)))
    go (no l) =
        let both = sym (before-up place e d (omega (arith, l))) ∙ h in
        inl (leb-true _ _ (and_left (leb place e) (ltb e d) both), ltb-true _ _ (and_right (leb place e) (ltb e d) both))

-- of two domains one comes before the other
apart : (place e d : ℕ) → (e ≡ d → ⊥) → (comes_before place e d ≡ true) ⊎ (comes_before place d e ≡ true)
apart place e d differs = go (dec_lt d place) (dec_lt e place) (dec_lt e d)
  where
    up : (x y : ℕ) → place ≤ x → x < y → comes_before place x y ≡ true
    up x y from less = before-up place x y (omega (arith, from, less)) ∙ and_intro (le-leb place x from) (lt-ltb x y less)

    high : (x y : ℕ) → y < place → place ≤ x → comes_before place x y ≡ true
    high x y low from = before-round place x y low ∙ rw (le-leb place x from)

    low : (x y : ℕ) → y < place → x < y → comes_before place x y ≡ true
    low x y under less = before-round place x y under ∙ or_right (leb place x) (ltb x y) (lt-ltb x y less)

    go : Dec (d < place) → Dec (e < place) → Dec (e < d) → (comes_before place e d ≡ true) ⊎ (comes_before place d e ≡ true)
    go (yes a) (yes b) (yes k) = inl (low e d a k)
    go (yes a) (yes b) (no k) = inr (low d e b (omega (arith, k, differs)))
    go (yes a) (no b) k = inl (high e d a (omega (arith, b)))
    go (no a) (yes b) k = inr (high d e b (omega (arith, a)))
    go (no a) (no b) (yes k) = inl (up e d (omega (arith, b)) k)
    go (no a) (no b) (no k) = inr (up d e (omega (arith, a)) (omega (arith, k, differs)))

-- ---- whom a turn serves

next-served : (n : ℕ) (s : Turns) (d : ℕ) (c : Call) → Serving n s d c → NextServed n s d c
next-served n s d c it =
    record { below = it.below; oldest = it.front; first = λ e l h. no_words s e (go e l it.order (before-cases s.place e d h)) }
  where
    go : (e : ℕ) → e < n
        → ((s.place ≤ d) × ((x : ℕ) → s.place ≤ x → x < d → waits s x ≡ false))
        ⊎ (((x : ℕ) → s.place ≤ x → x < n → waits s x ≡ false) × ((x : ℕ) → x < d → waits s x ≡ false))
        → ((s.place ≤ e) × (e < d)) ⊎ ((d < s.place) × ((s.place ≤ e) ⊎ (e < d)))
        → waits s e ≡ false
    go e l (inl (at, none)) (inl (from, less)) = none e from less
    go e l (inl (at, none)) (inr (low, either)) = absurd (omega (arith, at, low))
    go e l (inr (later, none)) (inl (from, less)) = none e less
    go e l (inr (later, none)) (inr (low, inl from)) = later e from l
    go e l (inr (later, none)) (inr (low, inr less)) = none e less

-- a domain that has a call has words
some_words : (s : Turns) (d : ℕ) (c : Call) (cs : List Call) → split (s.pending d) ≡ c ∷ cs → s.pending d ≡ [] → ⊥
unfolding split
some_words s d c cs is none = no-cons (ap split (sym none) ∙ is)

serves-same : {d e : ℕ} {c x : Call} → serves d c ≡ serves e x → (d ≡ e) × (c ≡ x)
serves-same p = (cc, cc)

serving : (n : ℕ) (s : Turns) (d : ℕ) (c : Call) → turn_of n s ≡ serves d c → Serving n s d c
serving n s d c h =
    ⊎_elim
    (λ none. absurd (not-idle (sym h ∙ none.0)))
    (λ some.
    let (e, x, is, it) = some in
    let (here, call) = serves-same (sym is ∙ h) in
    subst (λ (y : Call). Serving n s d y) call (subst (λ (y : ℕ). Serving n s y x) here it))
    (turn-cases n s)

pub serves-first : ServesFirst
serves-first n s d c = (λ h. next-served n s d c (serving n s d c h), back)
  where
    same : NextServed n s d c → (e : ℕ) (x : Call) → turn_of n s ≡ serves e x → NextServed n s e x → turn_of n s ≡ serves d c
    same f e x is g = go (dec_lt e d) (dec_lt d e)
      where
        other : (e ≡ d → ⊥) → turn_of n s ≡ serves d c
        other differs =
            ⊎_elim
            (λ h. absurd (some_words s e x _ g.oldest (f.first e g.below h)))
            (λ h. absurd (some_words s d c _ f.oldest (g.first d f.below h)))
            (apart s.place e d differs)

        go : Dec (e < d) → Dec (d < e) → turn_of n s ≡ serves d c
        go (yes k) l = other (λ is. omega (arith, k, is))
        go (no k) (yes l) = other (λ is. omega (arith, l, is))
        go (no k) (no l) =
            let here : e ≡ d = omega (arith, k, l) in
            let call = (cons_same (sym (subst (λ (y : ℕ). split (s.pending y) ≡ x ∷ split (drop (width x) (s.pending y))) here g.oldest) ∙ f.oldest)).0 in
            is ∙ ap (λ (y : ℕ). serves y x) here ∙ ap (serves d) call

    back : NextServed n s d c → turn_of n s ≡ serves d c
    back f =
        ⊎_elim
        (λ none. absurd (some_words s d c _ f.oldest (no_words s d (none.1 d f.below))))
        (λ some. let (e, x, is, it) = some in same f e x is (next-served n s e x it))
        (turn-cases n s)

-- ---- where the next turn starts

-- one turn before others
place-turn : (s : Turns) (x : Turn) (ts : List Turn) → place_after s.place (x ∷ ts) ≡ place_after (after_turn s x).place ts
unfolding place_after after_turn
place-turn s idle ts = refl
place-turn s (serves d c) ts = refl

-- one event that isn't refused before others
place-done : (l : Layer) (e : Event) (ts : List Turn) → place_after (done l e).turns.place ts ≡ place_after l.turns.place (turn_at l e ++ ts)
unfolding done turn_at handed_in
place-done l (hand_in d ws) ts = refl
place-done l (turn space lent) ts = sym (place-turn l.turns (next_turn l) ts)

place-history : (es : List Event) (l : Layer) → (layer_after l es).turns.place ≡ place_after l.turns.place (turns_of l es)
unfolding layer_after after_event along_with place_after
place-history [] l = refl
place-history (e ∷ es) l = go (eqb (event_code l e) 0) (place-history es)
  where
    go : (b : Bool) → ((x : Layer) → (layer_after x es).turns.place ≡ place_after x.turns.place (turns_of x es))
        → (layer_after (cond b (done l e) l) es).turns.place ≡ place_after l.turns.place (cond b (turn_at l e) [] ++ turns_of (cond b (done l e) l) es)
    go true rest = rest (done l e) ∙ place-done l e (turns_of (done l e) es)
    go false rest = rest l

pub starts-after-last : StartsAfterLast
unfolding begun
starts-after-last = (refl, λ l es. place-history es l)

-- ---- words of served calls

-- a turn that isn't refused has an accepted table
turn-accepted : (t : List ℕ) (s : Turns) (space lent : ℕ) → turn_code t s space lent ≡ 0 → Accepted t
unfolding turn_code
turn-accepted t s space lent h = go (eqb (table_code t) 0) _ refl h
  where
    go : (b : Bool) (rest : ℕ) → eqb (table_code t) 0 ≡ b → cond (not b) (table_code t) rest ≡ 0 → Accepted t
    go true rest e h = eqb-true _ _ e
    go false rest e h = h

-- what lets words in
lets-in : (t : List ℕ) (s : Turns) (d : ℕ) (ws : List ℕ) → LetIn t s d ws → hand_in_code t s d ws ≡ 0
unfolding hand_in_code
lets-in t s d ws in' =
    rw (eq-eqb (table_code t) 0 in'.accepted, lt-ltb d (domains t) in'.below, in'.one_call, le-ltb most_pending (length (s.pending d) + length ws) in'.room)

pub served-words-used-again : ServedWordsUsedAgain
unfolding event_code after_event done next_turn after_turn table_after
served-words-used-again l space lent d c ws code is few one fits =
    let t = l.table in
    let s = l.turns in
    let it = serving (domains t) s d c is in
    let kept = stays-accepted t c (turn-accepted t s space lent code) in
    rw (eq-eqb (turn_code t s space lent) 0 code, is)
    (lets-in (step t c) (after_turn s (serves d c)) d ws
    (record {
      accepted = kept.accepted;
      below = subst (λ (n : ℕ). d < n) (sym kept.frame.same_domains) it.below;
      one_call = one;
      room =
          rw (replaced-here s.pending d (drop (width c) (s.pending d)), length-drop (width c) (s.pending d))
          (omega (arith, it.fits, few, fits));
    }))
