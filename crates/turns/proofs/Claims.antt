-- What the state's words represent after handing in and after a turn (specs/Claims). Assumes nothing.
use mathlib.Core.Path.{◌≡◌, refl, sym, ap, ap₂, ◌∙◌}
use mathlib.Core.Bool.{Bool, true, false, cond}
use mathlib.Core.Logic.{⊎_elim}
use mathlib.Core.List.{List, [], ◌++◌, append_assoc}
use Prim.Native.Nat.{ℕ, suc, ◌+◌, ◌-◌, ◌*◌, ◌<◌, ◌≤◌, min}
use native.Mathlib.Decide.{dec_lt}
use native.Mathlib.Omega.{arith}
use borrow.Author.Tests.{eqb-true, eqb-false, eq-eqb}
use lib.Dec.{eqb}
use lib.ListN.{take-append-drop, length, get_or, take, drop, set, replicate, length-set, length-append, length-drop, length-replicate, get_or-replicate, get_or-eq_default, get_or-append}
use lib.Seq.{length-take-le, take_at, drop_at, drop-drop, take-append-le, drop-append-le, drop-append-add, get_or-set_same, drop-set-lt, get_or-take, get_or-drop}
use Rattle.machine.specs.Table.{domains}
use Rattle.machine.specs.Call.{Call}
use Rattle.turns_theory.specs.Turns.{most_pending, begun, replaced, hand_in_code, handed_in, width, after_turn, Turn.idle, Turn.serves}
use Rattle.turns_theory.proofs.Pending.{Serving, turn-cases}
use Rattle.turns_theory.proofs.Histories.{LetIn, let-in}
use Rattle.turns_state.specs.Pending.{block_length, count, pending_in, enqueued, dequeued, MayEnqueue, MayDequeue}
use Rattle.turns_state.proofs.Laws.{pending-length, pending-enqueued, pending-dequeued, enqueued-length, dequeued-length}
use Rattle.turns_state.specs.State.{state_length, block_at, block, set_block, turns_in, turn_in, state_handed_in, state_served, state_after}
use Rattle.turns.specs.Promise.{hand_in_code_on_state}
use Rattle.turns.specs.Claims.{Begins, EveryHandIn, EveryTurn}
use Rattle.turns_state.proofs.Blocks.{block-length, set-block-length}
use Rattle.turns.proofs.Codes.{turn-code}

-- ---- a domain's words among the others'

module _ (ws b : List ℕ) (d : ℕ) (here : length b ≡ block_length) (within : block_at d + block_length ≤ length ws) where
  front : length (take (block_at d) ws) ≡ block_at d
  front = length-take-le (block_at d) ws (omega (arith, within))

  -- those that were stored there
  pub block-at : block (set_block ws d b) d ≡ b
  unfolding block set_block
  block-at =
      ap (take block_length) (drop_at (take (block_at d) ws) (b ++ drop block_length (drop (block_at d) ws)) (block_at d) front)
      ∙ take_at b (drop block_length (drop (block_at d) ws)) block_length here

  -- and those of another domain
  pub block-else : (e : ℕ) → eqb d e ≡ false → block (set_block ws d b) e ≡ block ws e
  unfolding block set_block
  block-else e other = go (dec_lt e d)
    where
      p : List ℕ
      p = take (block_at d) ws

      -- words that begin alike are the same before d's
      low : (rest : List ℕ) → e < d → take block_length (drop (block_at e) (p ++ rest)) ≡ take block_length (drop (block_at e) p)
      low rest l =
          let z = length-drop (block_at e) p in
          ap (take block_length) (drop-append-le (block_at e) p rest (omega (arith, front, l)))
          ∙ take-append-le block_length (drop (block_at e) p) rest (omega (arith, front, l, z))

      -- and words that end alike are the same after them
      high : d < e → drop (block_at e) (p ++ (b ++ drop block_length (drop (block_at d) ws))) ≡ drop (block_at e) ws
      high l =
          let k = 17 * (e - suc d) in
          let at : block_at e ≡ length (p ++ b) + k = omega (arith, length-append p b, front, here, l) in
          let same : block_at d + (block_length + k) ≡ block_at e = omega (arith, l) in
          ap₂ (λ (i : ℕ) (xs : List ℕ). drop i xs) at (sym (append_assoc p b (drop block_length (drop (block_at d) ws))))
          ∙ drop-append-add (p ++ b) (drop block_length (drop (block_at d) ws)) k
          ∙ drop-drop k block_length (drop (block_at d) ws)
          ∙ drop-drop (block_length + k) (block_at d) ws
          ∙ ap (λ (i : ℕ). drop i ws) same

      go : Dec (e < d) → take block_length (drop (block_at e) (p ++ (b ++ drop block_length (drop (block_at d) ws)))) ≡ take block_length (drop (block_at e) ws)
      go (yes l) =
          low (b ++ drop block_length (drop (block_at d) ws)) l
          ∙ sym (low (drop (block_at d) ws) l)
          ∙ ap (λ (xs : List ℕ). take block_length (drop (block_at e) xs)) (take-append-drop (block_at d) ws)
      go (no l) = ap (take block_length) (high (omega (arith, l, eqb-false d e other)))

  -- the place is in no domain's words
  pub place-else : get_or (set_block ws d b) 0 0 ≡ get_or ws 0 0
  unfolding set_block
  place-else =
      get_or-append (take (block_at d) ws) (b ++ drop block_length (drop (block_at d) ws)) 0 0 (omega (arith, front))
      ∙ get_or-take (block_at d) ws 0 0 (omega arith)

-- a word 0 that is set
set_first : (ws : List ℕ) (d v : ℕ) → block (set ws 0 v) d ≡ block ws d
unfolding block
set_first ws d v = ap (take block_length) (drop-set-lt (block_at d) ws 0 v (omega arith))

-- ---- the beginning

zero-at : (size i : ℕ) → get_or (replicate {A = ℕ} size 0) i 0 ≡ 0
zero-at size i = go (dec_lt i size)
  where
    go : Dec (i < size) → get_or (replicate {A = ℕ} size 0) i 0 ≡ 0
    go (yes l) = get_or-replicate size i 0 0 l
    go (no l) = get_or-eq_default (replicate {A = ℕ} size 0) 0 (omega (arith, l, length-replicate {A = ℕ} size 0))

nothing-pending : (b : List ℕ) → get_or b 0 0 ≡ 0 → pending_in b ≡ []
unfolding pending_in count
nothing-pending b h = ap (λ (w : ℕ). take (min w most_pending) (drop 1 b)) h

pub begins : Begins
unfolding turns_in begun block
begins size =
    λ i.
    record {
      pending =
          λ d.
          nothing-pending (take block_length (drop (block_at d) (replicate {A = ℕ} size 0)))
          (get_or-take block_length (drop (block_at d) (replicate {A = ℕ} size 0)) 0 0 (omega arith) ∙ get_or-drop (block_at d) (replicate {A = ℕ} size 0) 0 0 ∙ zero-at size (block_at d + 0)) i;
      place = zero-at size 0 i;
    }

-- ---- handing in

module _ (t ws : List ℕ) (d : ℕ) (vs : List ℕ) (size : length ws ≡ state_length (domains t)) where
  same_code : hand_in_code_on_state t ws d vs ≡ hand_in_code t (turns_in ws) d vs
  unfolding hand_in_code_on_state hand_in_code turns_in
  same_code = rw (eq-eqb (length ws) (state_length (domains t)) size)

  module _ (done : hand_in_code_on_state t ws d vs ≡ 0) where
    in' : LetIn t (turns_in ws) d vs
    in' = let-in t (turns_in ws) d vs (eq-eqb _ 0 (sym same_code ∙ done))

    may : MayEnqueue (block ws d) (length vs)
    unfolding turns_in
    may =
        let whole = block-length ws (domains t) d size in'.below in
        record { size = whole; room = omega (arith, in'.room, pending-length (block ws d) whole) }

    within : block_at d + block_length ≤ length ws
    within = omega (arith, size, in'.below)

    handed : (e : ℕ) → pending_in (block (state_handed_in ws d vs) e) ≡ replaced (λ x. pending_in (block ws x)) d (pending_in (block ws d) ++ vs) e
    unfolding state_handed_in replaced
    handed e = go (eqb d e) refl
      where
        b : List ℕ
        b = enqueued (block ws d) vs

        go : (x : Bool) → eqb d e ≡ x → pending_in (block (set_block ws d b) e) ≡ cond x (pending_in (block ws d) ++ vs) (pending_in (block ws e))
        go true is =
            ap (λ (x : ℕ). pending_in (block (set_block ws d b) x)) (sym (eqb-true d e is))
            ∙ ap pending_in (block-at ws b d (enqueued-length (block ws d) vs may) within)
            ∙ pending-enqueued (block ws d) vs may
        go false is = ap pending_in (block-else ws b d (enqueued-length (block ws d) vs may) within e is)

    handed-left : turns_in (state_handed_in ws d vs) ≡ handed_in (turns_in ws) d vs
    unfolding turns_in handed_in state_handed_in
    handed-left =
        λ i.
        record {
          pending = λ e. handed e i;
          place = place-else ws (enqueued (block ws d) vs) d (enqueued-length (block ws d) vs may) within i;
        }

    handed-size : length (state_handed_in ws d vs) ≡ length ws
    unfolding state_handed_in
    handed-size = set-block-length ws (enqueued (block ws d) vs) d (enqueued-length (block ws d) vs may ∙ sym may.size)

pub every-hand-in : EveryHandIn
every-hand-in t ws d vs size =
    record { code = same_code t ws d vs size; left = handed-left t ws d vs size; size = handed-size t ws d vs size }

-- ---- a turn

module _ (ws : List ℕ) (n d : ℕ) (c : Call) (size : length ws ≡ state_length n) (it : Serving n (turns_in ws) d c) where
  may-go : MayDequeue (block ws d) (width c)
  unfolding turns_in
  may-go =
      let whole = block-length ws n d size it.below in
      record { size = whole; there = omega (arith, it.fits, pending-length (block ws d) whole) }

  inside : block_at d + block_length ≤ length ws
  inside = omega (arith, size, it.below)

  served : (e : ℕ) → pending_in (block (state_after ws (serves d c)) e) ≡ replaced (λ x. pending_in (block ws x)) d (drop (width c) (pending_in (block ws d))) e
  unfolding state_after state_served replaced
  served e = ap pending_in (set_first (set_block ws d b) e (d + 1)) ∙ go (eqb d e) refl
    where
      b : List ℕ
      b = dequeued (block ws d) (width c)

      go : (x : Bool) → eqb d e ≡ x → pending_in (block (set_block ws d b) e) ≡ cond x (drop (width c) (pending_in (block ws d))) (pending_in (block ws e))
      go true is =
          ap (λ (x : ℕ). pending_in (block (set_block ws d b) x)) (sym (eqb-true d e is))
          ∙ ap pending_in (block-at ws b d (dequeued-length (block ws d) (width c) may-go) inside)
          ∙ pending-dequeued (block ws d) (width c) may-go
      go false is = ap pending_in (block-else ws b d (dequeued-length (block ws d) (width c) may-go) inside e is)

  served-size : length (state_after ws (serves d c)) ≡ length ws
  unfolding state_after state_served
  served-size =
      length-set (set_block ws d (dequeued (block ws d) (width c))) 0 (d + 1)
      ∙ set-block-length ws (dequeued (block ws d) (width c)) d (dequeued-length (block ws d) (width c) may-go ∙ sym may-go.size)

  served-left : turns_in (state_after ws (serves d c)) ≡ after_turn (turns_in ws) (serves d c)
  unfolding turns_in after_turn state_after state_served
  served-left =
      λ i.
      record {
        pending = λ e. served e i;
        place =
            get_or-set_same (set_block ws d (dequeued (block ws d) (width c))) 0 (d + 1) 0
            (omega (arith, size, it.below, set-block-length ws (dequeued (block ws d) (width c)) d (dequeued-length (block ws d) (width c) may-go ∙ sym may-go.size))) i;
      }

pub every-turn : EveryTurn
unfolding turn_in state_after after_turn
every-turn t ws space lent size =
    ⊎_elim
    (λ none. let is : turn_in t ws ≡ idle = none.0 in record { code = turn-code t ws space lent size; left = rw is; size = rw is })
    (λ some.
    let (d, c, is, it) = some in
    let turn : turn_in t ws ≡ serves d c = is in
    record {
      code = turn-code t ws space lent size;
      left = rw turn (served-left ws (domains t) d c size it);
      size = rw turn (served-size ws (domains t) d c size it);
    })
    (turn-cases (domains t) (turns_in ws))
