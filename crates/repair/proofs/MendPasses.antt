-- The two passes over a table's words, iteration by iteration, and that both together mend it (specs/Passes). Assumes nothing.
use Prim.Native.Nat.{ℕ, ◌+◌, ◌*◌, ◌-◌, ◌<◌, ◌≤◌}
use mathlib.Core.Path.{◌≡◌, refl, sym, ap, ap₂, subst, ◌∙◌}
use mathlib.Core.Bool.{Bool, true, false, cond, not}
use mathlib.Core.Logic.{⊎_elim}
use mathlib.Core.List.{List, [], ◌∷◌, ◌++◌, append_assoc, append-nil}
use native.Mathlib.Nat.{add-sub_cancel_left}
use native.Mathlib.Omega.{arith}
use borrow.Author.Count.{below_none, below_more}
use lib.ListN.{length, get_or, take, drop, set, replicate, length-set, length-drop, drop_of_length-le}
use lib.Seq.{get_or-set_same, get_or-set_other, take-suc-set, length-take-le}
use Rattle.machine.specs.Word.{word}
use Rattle.machine.specs.Table.{domains, endpoints, endpoint_at, endpoint, set_endpoint}
use Rattle.machine.specs.Queue.{empty_slot}
use Rattle.machine.specs.Check.{queue_ok, header_ok, length_ok, rights_ok, endpoints_ok, table_code, Accepted}
use Rattle.machine.proofs.Table.{Sized, domains-header, endpoints-header, endpoint-length, endpoint-ext, set_endpoint-length, set_endpoint-before, set_endpoint-same, set_endpoint-other}
use Rattle.table_check.specs.Checked.{Headed}
use Rattle.repair_theory.specs.Mend.{mended_rights, mended_endpoint, mended}
use Rattle.repair.specs.Passes.{RightsMended, EndpointsMended}
use Rattle.repair_theory.proofs.Mended.{queue-emptied, mended-twelve, headed-sized, mended-is, headed-either}
use Rattle.repair_theory.proofs.Claims.{sound-stays}

-- ---- the rights words

pub rights-start : (t : List ℕ) → RightsMended t t 0
rights-start t = record { size = refl; header = refl; done = below_none _; rest = λ j l. refl }

pub rights-next : {t t' : List ℕ} {i : ℕ} → RightsMended t t' i → 1 + i < length t → (w : ℕ) → w ≡ mended_rights (get_or t' (1 + i) 0) → RightsMended t (set t' (1 + i) w) (i + 1)
rights-next {t} {t'} {i} m l w e =
    record {
      size = length-set t' (1 + i) w ∙ m.size;
      header = get_or-set_other t' (1 + i) 0 w 0 (λ z. omega arith) ∙ m.header;
      done =
          below_more _ i (λ j b. get_or-set_other t' (1 + i) (1 + j) w 0 (λ z. omega arith) ∙ m.done j b)
          (get_or-set_same t' (1 + i) w 0 (omega (arith, m.size)) ∙ e ∙ ap mended_rights (m.rest (1 + i) (omega arith)));
      rest = λ j b. get_or-set_other t' (1 + i) j w 0 (λ z. omega arith) ∙ m.rest j (omega arith);
    }

-- ---- an endpoint's words

-- the slots are the last eight of twelve words
pub slots-eight : (p : List ℕ) → length p ≡ 12 → length (take (length p - 4) (drop 4 p)) ≡ 8
slots-eight p twelve = length-take-le (length p - 4) (drop 4 p) (omega (arith, length-drop 4 p)) ∙ omega arith

-- once the waiting word, the lost word and the slots are written, the queue is emptied
pub emptied : (q slots : List ℕ) (k : ℕ)
    → length q ≡ 12
    → queue_ok q ≡ false
    → slots ≡ replicate k empty_slot
    → k ≡ 8
    → (let p = set (set q 2 (word 5 0)) 3 (word 6 0) in take 4 p ++ (slots ++ drop (length p - 4) (drop 4 p))) ≡ mended_endpoint q
emptied q slots k twelve broken cleared eight =
    let p = set (set q 2 (word 5 0)) 3 (word 6 0) in
    ap₂ (λ (front rest : List ℕ). front ++ (slots ++ rest))
    (take-suc-set (set q 2 (word 5 0)) 3 (word 6 0) (simp length-set (omega arith))
    ∙ ap (λ (x : List ℕ). x ++ (word 6 0 ∷ [])) (take-suc-set q 2 (word 5 0) (omega arith)))
    (drop_of_length-le (drop 4 p) {i = length p - 4} (simp (length-drop, length-set) (omega arith)))
    ∙ rw (cleared, eight) (simp (append_assoc, append-nil))
    ∙ sym (queue-emptied q broken)

-- ---- the endpoints

pub endpoints-start : (t : List ℕ) → EndpointsMended t t 0
endpoints-start t = record { size = refl; before = λ j l. refl; done = below_none _; rest = λ e l b. refl }

module _ {t t' : List ℕ} {e : ℕ} (m : EndpointsMended t t' e) (sized : Sized t) (l : e < endpoints t) where
  header-stays : get_or t' 0 0 ≡ get_or t 0 0
  header-stays = m.before 0 (omega arith)

  domains-stay : domains t' ≡ domains t
  domains-stay = domains-header t' t header-stays

  endpoints-stay : endpoints t' ≡ endpoints t
  endpoints-stay = endpoints-header t' t header-stays

  still-sized : Sized t'
  still-sized = rw (m.size, domains-stay, endpoints-stay) sized

  still-there : e < endpoints t'
  still-there = rw endpoints-stay l

  -- the part that is lent is the endpoint, as it came
  lent : take (endpoint_at (domains t) e + 12 - endpoint_at (domains t) e) (drop (endpoint_at (domains t) e) t') ≡ endpoint t' e
  unfolding endpoint
  lent = rw (add-sub_cancel_left (endpoint_at (domains t) e) 12, domains-stay)

  pub lent-twelve : length (take (endpoint_at (domains t) e + 12 - endpoint_at (domains t) e) (drop (endpoint_at (domains t) e) t')) ≡ 12
  lent-twelve = ap length lent ∙ endpoint-length t' still-sized e still-there

  put_back : (q : List ℕ) → take (endpoint_at (domains t) e) t' ++ (q ++ drop (endpoint_at (domains t) e + 12 - endpoint_at (domains t) e) (drop (endpoint_at (domains t) e) t')) ≡ set_endpoint t' e q
  unfolding set_endpoint
  put_back q = rw (add-sub_cancel_left (endpoint_at (domains t) e) 12, domains-stay)

  pub endpoints-next : (q : List ℕ)
      → q ≡ mended_endpoint (take (endpoint_at (domains t) e + 12 - endpoint_at (domains t) e) (drop (endpoint_at (domains t) e) t'))
      → EndpointsMended t (take (endpoint_at (domains t) e) t' ++ (q ++ drop (endpoint_at (domains t) e + 12 - endpoint_at (domains t) e) (drop (endpoint_at (domains t) e) t'))) (e + 1)
  endpoints-next q is =
      subst (λ (x : List ℕ). EndpointsMended t x (e + 1)) (sym (put_back q))
      (record {
        size = set_endpoint-length t' still-sized e q still-there twelve ∙ m.size;
        before = λ j b. set_endpoint-before t' still-sized e q still-there twelve j (rw domains-stay (omega arith)) ∙ m.before j b;
        done =
            below_more _ e
            (λ f b. set_endpoint-other t' still-sized e q still-there twelve f (omega (arith, still-there)) (λ z. omega arith) ∙ m.done f b)
            (set_endpoint-same t' still-sized e q still-there twelve ∙ is ∙ ap mended_endpoint (lent ∙ m.rest e (omega arith) l));
        rest =
            λ f b lf.
            set_endpoint-other t' still-sized e q still-there twelve f (rw endpoints-stay lf) (λ z. omega arith)
            ∙ m.rest f (omega arith) lf;
      })
    where
      twelve : length q ≡ 12
      twelve = ap length is ∙ mended-twelve _ lent-twelve

-- ---- both passes

-- after the pass over the rights words, word 0 and the length are as right as before
pub still-headed : (t t' : List ℕ) (i : ℕ) → Headed t → RightsMended t t' i → Headed t'
unfolding header_ok length_ok
still-headed t t' i h m =
    record {
      header = rw (m.size, m.header) h.header;
      size = rw (m.size, domains-header t' t m.header, endpoints-header t' t m.header) h.size;
    }

pub both-passes : (t t₁ t₂ : List ℕ) → Headed t → RightsMended t t₁ (domains t * domains t) → EndpointsMended t₁ t₂ (endpoints t₁) → t₂ ≡ mended t
both-passes t t₁ t₂ h r e =
    mended-is t h t₂ (e.size ∙ r.size) (e.before 0 (omega arith) ∙ r.header)
    (λ i l. e.before (1 + i) (rw same (omega arith)) ∙ r.done i l)
    (λ f l.
    e.done f (rw same-endpoints l)
    ∙ ap mended_endpoint
    (endpoint-ext t₁ t (headed-sized t₁ (still-headed t t₁ _ h r)) (headed-sized t h) same same-endpoints f l
    (λ k _. r.rest (endpoint_at (domains t) f + k) (omega arith))))
  where
    same : domains t₁ ≡ domains t
    same = domains-header t₁ t r.header

    same-endpoints : endpoints t₁ ≡ endpoints t
    same-endpoints = endpoints-header t₁ t r.header

-- ---- which tables are mended

-- refused by 4 or 5: word 0 and the length are right
pub from-four : (t : List ℕ) → 4 ≤ table_code t → Headed t
unfolding table_code
from-four t = go (header_ok t) refl (length_ok t) refl
  where
    go : (a : Bool) → header_ok t ≡ a → (b : Bool) → length_ok t ≡ b → 4 ≤ cond (not a) 2 (cond (not b) 3 (cond (not (rights_ok t)) 4 (cond (not (endpoints_ok t)) 5 0))) → Headed t
    go true header true size l = record { header = header; size = size }
    go true header false size l = absurd (omega arith)
    go false header b size l = absurd (omega arith)

-- accepted, where word 0 and the length are right and the code is below 4
accepted-below : (t : List ℕ) → Headed t → table_code t < 4 → Accepted t
unfolding table_code
accepted-below t h l = rw (h.header, h.size) (go (rights_ok t) (endpoints_ok t) (rw (h.header, h.size) at l))
  where
    go : (a b : Bool) → cond (not a) 4 (cond (not b) 5 0) < 4 → ◌≡◌ {A = ℕ} (cond (not a) 4 (cond (not b) 5 0)) 0
    go true true l = refl
    go true false l = absurd (omega arith)
    go false b l = absurd (omega arith)

-- any other table stays
pub below-four : (t : List ℕ) → table_code t < 4 → t ≡ mended t
below-four t l =
    ⊎_elim (λ h. sym (sound-stays t (accepted-below t h l))) (λ stays. sym stays) (headed-either t)
