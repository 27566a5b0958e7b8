-- Laws of the codes and promises (specs/Promise): each check that refuses, and where none does. Assumes nothing.
use mathlib.Core.Path.{◌≡◌, refl, sym, ap, ◌∙◌}
use mathlib.Core.Bool.{Bool, true, false, cond, not, ◌&&◌}
use mathlib.Core.List.{List}
use Prim.Native.Nat.{ℕ, zero, suc, ◌+◌, ◌<◌, ◌≤◌}
use native.Mathlib.Omega.{arith}
use borrow.Author.Tests.{eq-eqb, ne_eqb, lt-ltb, le-ltb, leb-false}
use lib.Dec.{eqb, leb}
use lib.ListN.{length, replicate}
use Rattle.machine.specs.Table.{domains}
use Rattle.machine.specs.Check.{table_code, Accepted}
use Rattle.machine.specs.Call.{Call, split}
use Rattle.machine.specs.Entry.{holders_code}
use Rattle.machine.specs.Holders.{holders_of}
use Rattle.kernel.specs.Step.{step_entry_code}
use Rattle.kernel.specs.Reports.{HoldersPromise}
use Rattle.turns_theory.specs.Turns.{Turn, most_pending, is_one_of, turn_of, answer_code, turn_code, Turn.idle, Turn.serves}
use Rattle.turns_state.specs.Pending.{block_length, count, pending_in, enqueuable}
use Rattle.turns_state.proofs.Laws.{may-enqueue, pending-length}
use Rattle.turns_state.specs.State.{state_length, block, turns_in, turn_in, state_handed_in}
use Rattle.turns.specs.Codes.{bad_turns, then_code}
use Rattle.turns.specs.Promise.{state_code, begin_code, BeginPromise, hand_in_code_on_state, HandInPromise, turn_code_on_state}
use Rattle.turns_state.proofs.Blocks.{block-length}

-- ---- handing in

module _ (t ws : List ℕ) (d : ℕ) (vs : List ℕ) where
  pub hands-table : (k : ℕ) → k ≡ table_code t → (k ≡ 0 → ⊥) → k ≡ hand_in_code_on_state t ws d vs
  unfolding hand_in_code_on_state
  hands-table k is bad = rw (ne_eqb (table_code t) 0 (λ z. bad (is ∙ z))) is

  pub hands-domain : Accepted t → domains t ≤ d → 35 ≡ hand_in_code_on_state t ws d vs
  unfolding hand_in_code_on_state
  hands-domain a h = rw (eq-eqb (table_code t) 0 a, le-ltb d (domains t) h)

  pub hands-call : Accepted t → d < domains t → is_one_of d (split vs) ≡ false → 36 ≡ hand_in_code_on_state t ws d vs
  unfolding hand_in_code_on_state
  hands-call a l h = rw (eq-eqb (table_code t) 0 a, lt-ltb d (domains t) l, h)

  pub hands-size : Accepted t → d < domains t → is_one_of d (split vs) ≡ true → eqb (length ws) (state_length (domains t)) ≡ false → bad_turns ≡ hand_in_code_on_state t ws d vs
  unfolding hand_in_code_on_state
  hands-size a l h k = rw (eq-eqb (table_code t) 0 a, lt-ltb d (domains t) l, h, k)

  module _ (a : Accepted t) (l : d < domains t) (one : is_one_of d (split vs) ≡ true) (size : length ws ≡ state_length (domains t)) where
    room : length (pending_in (block ws d)) ≡ count (block ws d)
    room = pending-length (block ws d) (block-length ws (domains t) d size l)

    pub hands-room : enqueuable (block ws d) (length vs) ≡ false → 37 ≡ hand_in_code_on_state t ws d vs
    unfolding hand_in_code_on_state enqueuable
    hands-room h =
        rw (
          eq-eqb (table_code t) 0 a,
          lt-ltb d (domains t) l,
          one,
          eq-eqb (length ws) (state_length (domains t)) size,
          lt-ltb most_pending (length (pending_in (block ws d)) + length vs) (omega (arith, room, full)),
        )
      where
        full : most_pending < count (block ws d) + length vs
        full =
            leb-false (count (block ws d) + length vs) most_pending
            (sym (ap (λ (b : Bool). b && leb (count (block ws d) + length vs) most_pending) (eq-eqb (length (block ws d)) block_length (block-length ws (domains t) d size l))) ∙ h)

    pub hands-fine : enqueuable (block ws d) (length vs) ≡ true → 0 ≡ hand_in_code_on_state t ws d vs
    unfolding hand_in_code_on_state
    hands-fine h =
        let fits = (may-enqueue (block ws d) (length vs) h).room in
        rw (
          eq-eqb (table_code t) 0 a,
          lt-ltb d (domains t) l,
          one,
          eq-eqb (length ws) (state_length (domains t)) size,
          le-ltb most_pending (length (pending_in (block ws d)) + length vs) (omega (arith, room, fits)),
        )

  -- the promise where the words are refused, and where they are accepted
  pub hand-in-refused : (k : ℕ) → k ≡ hand_in_code_on_state t ws d vs → (k ≡ 0 → ⊥) → (ws' : List ℕ) → ws' ≡ ws → HandInPromise t ws d vs k ws'
  hand-in-refused k is bad ws' same =
      record { same_code = is; state = rw (ne_eqb (hand_in_code_on_state t ws d vs) 0 (λ z. bad (is ∙ z))) same }

  pub hand-in-done : 0 ≡ hand_in_code_on_state t ws d vs → (ws' : List ℕ) → ws' ≡ state_handed_in ws d vs → HandInPromise t ws d vs 0 ws'
  hand-in-done is ws' same = record { same_code = is; state = rw (eq-eqb (hand_in_code_on_state t ws d vs) 0 (sym is)) same }

-- ---- one code after another

pub then_next : (k next : ℕ) → k ≡ 0 → then_code k next ≡ next
unfolding then_code
then_next k next h = rw (eq-eqb k 0 h)

pub then-refused : (k next : ℕ) → (k ≡ 0 → ⊥) → then_code k next ≡ k
unfolding then_code
then-refused k next h = rw (ne_eqb k 0 h)

pub then-zero : (k : ℕ) → then_code k 0 ≡ k
unfolding then_code
then-zero zero = refl
then-zero (suc k) = rw (ne_eqb (suc k) 0 (λ z. omega arith))

-- where the next is a refusal, so is the whole
pub then_some : (k next : ℕ) → (next ≡ 0 → ⊥) → then_code k next ≡ 0 → ⊥
then_some zero next h e = h (sym (then_next zero next refl) ∙ e)
then_some (suc k) next h e = absurd (omega (arith, sym (then-refused (suc k) next (λ z. omega arith)) ∙ e))

-- ---- the beginning

module _ (t ws holders : List ℕ) where
  pub begin-unfit : (length ws ≡ state_length (domains t) → ⊥) → begin_code t (length ws) (length holders) ≡ then_code (step_entry_code t (length holders)) bad_turns
  unfolding begin_code state_code
  begin-unfit other = rw (ne_eqb (length ws) (state_length (domains t)) other)

  pub begin-fit : length ws ≡ state_length (domains t) → begin_code t (length ws) (length holders) ≡ step_entry_code t (length holders)
  unfolding begin_code state_code
  begin-fit same = rw (eq-eqb (length ws) (state_length (domains t)) same) (then-zero (step_entry_code t (length holders)))

  -- the promise where the beginning is refused, and where it isn't
  pub begin-refused : (k : ℕ) → k ≡ begin_code t (length ws) (length holders) → (k ≡ 0 → ⊥) → (kept : List ℕ) → kept ≡ holders → BeginPromise t ws holders k ws kept
  begin-refused k is bad kept same = record { same_code = is; state = rw (ne_eqb k 0 bad); same_holders = rw (ne_eqb k 0 bad) same }

  pub begin-done : length ws ≡ state_length (domains t) → (ws' kept : List ℕ) (k : ℕ) → k ≡ 0 → ws' ≡ replicate (length ws) 0 → HoldersPromise t holders k kept → BeginPromise t ws holders 0 ws' kept
  begin-done same ws' kept k none cleared p =
      record {
        same_code = sym none ∙ p.same_code ∙ sym (begin-fit same);
        state = cleared ∙ ap (λ (x : ℕ). replicate x 0) same;
        same_holders = p.same_holders ∙ ap (λ (b : Bool). cond b (holders_of t) holders) (eq-eqb _ 0 (sym p.same_code ∙ none));
      }

-- the kernel leaves the holders of a table that its entry refuses
pub holders-stay : (t holders : List ℕ) (k : ℕ) (kept : List ℕ) → HoldersPromise t holders k kept → (k ≡ 0 → ⊥) → kept ≡ holders
holders-stay t holders k kept p bad =
    p.same_holders ∙ ap (λ (b : Bool). cond b (holders_of t) holders) (ne_eqb _ 0 (λ z. bad (p.same_code ∙ z)))

-- ---- a turn

module _ (t ws : List ℕ) (space lent : ℕ) where
  pub turn-unfit : (length ws ≡ state_length (domains t) → ⊥) → turn_code_on_state t ws space lent ≡ then_code (step_entry_code t lent) bad_turns
  unfolding turn_code_on_state state_code
  turn-unfit other = rw (ne_eqb (length ws) (state_length (domains t)) other) (ap (then_code (step_entry_code t lent)) (then-refused bad_turns _ (λ z. omega arith)))

  module _ (size : length ws ≡ state_length (domains t)) where
    fits : turn_code_on_state t ws space lent ≡ then_code (step_entry_code t lent) (answer_code (turn_in t ws) space)
    unfolding turn_code_on_state state_code
    fits = rw (eq-eqb (length ws) (state_length (domains t)) size) (ap (then_code (step_entry_code t lent)) (then_next 0 _ refl))

    -- with nothing pending, the code is a step's
    pub turn-idle-code : turn_in t ws ≡ idle → turn_code_on_state t ws space lent ≡ step_entry_code t lent
    unfolding answer_code
    turn-idle-code is = fits ∙ ap (λ (x : Turn). then_code (step_entry_code t lent) (answer_code x space)) is ∙ then-zero (step_entry_code t lent)

    -- with a call pending and no space for its answer, 6 comes after it
    pub turn-space : (d : ℕ) (c : Call) → turn_in t ws ≡ serves d c → space < 3 → turn_code_on_state t ws space lent ≡ then_code (step_entry_code t lent) 6
    unfolding answer_code
    turn-space d c is few =
        fits ∙ ap (λ (x : Turn). then_code (step_entry_code t lent) (answer_code x space)) is ∙ ap (λ (b : Bool). then_code (step_entry_code t lent) (cond b 6 0)) (lt-ltb space 3 few)

    -- and with space for it, the code is a step's
    pub turn-serves : (d : ℕ) (c : Call) → turn_in t ws ≡ serves d c → 3 ≤ space → turn_code_on_state t ws space lent ≡ step_entry_code t lent
    unfolding answer_code
    turn-serves d c is enough =
        fits
        ∙ ap (λ (x : Turn). then_code (step_entry_code t lent) (answer_code x space)) is
        ∙ ap (λ (b : Bool). then_code (step_entry_code t lent) (cond b 6 0)) (le-ltb space 3 enough)
        ∙ then-zero (step_entry_code t lent)

    -- the code is the one for what the words represent
    pub turn-code : turn_code_on_state t ws space lent ≡ turn_code t (turns_in ws) space lent
    unfolding turn_code step_entry_code holders_code turn_in then_code
    turn-code = fits ∙ go (eqb (table_code t) 0) (eqb lent (domains t)) refl (answer_code (turn_of (domains t) (turns_in ws)) space)
      where
        go : (a b : Bool) → eqb (table_code t) 0 ≡ a → (k : ℕ)
            → cond (eqb (cond a (cond b 0 6) (table_code t)) 0) k (cond a (cond b 0 6) (table_code t)) ≡ cond (not a) (table_code t) (cond (not b) 6 k)
        go true true h k = refl
        go true false h k = refl
        go false b h k = rw h
