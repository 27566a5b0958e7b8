-- The words that a call writes, by n: one rights word, and an endpoint's part, lent from its index on and put back.
-- Assumes nothing.
use mathlib.Core.Path.{◌≡◌, sym, ap, ap₂, ◌∙◌}
use mathlib.Core.Bool.{true}
use mathlib.Core.List.{List, ◌++◌}
use Prim.Native.Nat.{ℕ, ◌+◌, ◌-◌, ◌<◌}
use native.Mathlib.Omega.{arith}
use lib.ListN.{take, drop, set, get_or}
use lib.Seq.{get_or-take, get_or-drop}
use Rattle.machine.specs.Word.{word, field_b, payload}
use Rattle.machine.specs.Table as table
use Rattle.machine.specs.Table.{rights_at, endpoint_at}
use Rattle.machine.specs.Queue.{name, owner, waiting, sent, received}
use Rattle.queue.specs.Queue.{sendable, left_by_send, receivable, left_by_receive}

module _ (t : List ℕ) (n : ℕ) (e : n ≡ table.domains t) where
  pub rights-written : (h g s at : ℕ) → at ≡ rights_at n h g → set t at (word 2 s) ≡ table.set_rights t h g s
  unfolding table.set_rights
  rights-written h g s at is = ap (λ (k : ℕ). set t k (word 2 s)) (is ∙ ap (λ (k : ℕ). rights_at k h g) e)

module _ (t : List ℕ) (i at : ℕ) (begins : at ≡ endpoint_at (table.domains t) i) where
  twelve-long : at + 12 - at ≡ 12
  twelve-long = omega arith

  -- what is lent are the endpoint's words
  lent : take (at + 12 - at) (drop at t) ≡ table.endpoint t i
  unfolding table.endpoint
  lent = ap₂ (λ (k a : ℕ). take k (drop a t)) twelve-long begins

  put_back : (q : List ℕ) → take at t ++ (q ++ drop (at + 12 - at) (drop at t)) ≡ table.set_endpoint t i q
  unfolding table.set_endpoint
  put_back q = ap₂ (λ (k a : ℕ). take a t ++ (q ++ drop k (drop a t))) twelve-long begins

  pub sent_back : (message : ℕ) (q : List ℕ)
      → sendable (table.endpoint t i) message ≡ true
      → q ≡ left_by_send (take (at + 12 - at) (drop at t)) message
      → take at t ++ (q ++ drop (at + 12 - at) (drop at t)) ≡ table.set_endpoint t i (sent (table.endpoint t i) message)
  unfolding left_by_send
  sent_back message q fits left =
      put_back q ∙ ap (table.set_endpoint t i) (left ∙ ap (λ (x : List ℕ). left_by_send x message) lent ∙ rw fits)

  pub received-back : (q : List ℕ)
      → receivable (table.endpoint t i) ≡ true
      → q ≡ left_by_receive (take (at + 12 - at) (drop at t))
      → take at t ++ (q ++ drop (at + 12 - at) (drop at t)) ≡ table.set_endpoint t i (received (table.endpoint t i))
  unfolding left_by_receive
  received-back q fits left = put_back q ∙ ap (table.set_endpoint t i) (left ∙ ap left_by_receive lent ∙ rw fits)

  -- and each is read there
  pub endpoint-word : (j : ℕ) → j < 12 → get_or t (at + j) 0 ≡ get_or (table.endpoint t i) j 0
  unfolding table.endpoint
  endpoint-word j l =
      ap (λ (k : ℕ). get_or t (k + j) 0) begins
      ∙ sym (get_or-take 12 (drop (endpoint_at (table.domains t) i) t) j 0 l ∙ get_or-drop (endpoint_at (table.domains t) i) t j 0)

  pub owner-read : field_b (get_or t (at + 1) 0) ≡ owner (table.endpoint t i)
  unfolding owner
  owner-read = ap field_b (endpoint-word 1 (omega arith))

  pub waiting-read : payload (get_or t (at + 2) 0) ≡ waiting (table.endpoint t i)
  unfolding waiting
  waiting-read = ap payload (endpoint-word 2 (omega arith))

  pub name-read : payload (get_or t at 0) ≡ name (table.endpoint t i)
  unfolding name
  name-read =
      let first : at ≡ at + 0 = omega arith in
      ap payload (ap (λ (k : ℕ). get_or t k 0) first ∙ endpoint-word 0 (omega arith))
