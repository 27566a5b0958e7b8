-- Laws of the split and of the run, for a loop over the words of a list (specs/Call, specs/Run): what is at the front of the
-- words that are left, and what remains after it.
-- Assumes nothing.
use mathlib.Core.Path.{◌≡◌, refl, sym, ap, ap₂, ◌∙◌}
use mathlib.Core.Bool.{Bool, true, false, cond}
use mathlib.Core.List.{List, [], ◌∷◌, ◌++◌, append_assoc, append-nil}
use Prim.Native.Nat.{ℕ, suc, ◌+◌, ◌*◌, ◌≤◌, zero-le}
use native.Mathlib.Numerals.{add-one, add-two}
use native.Mathlib.Omega.{arith}
use lib.ListN.{length, take, drop, set, length-append}
use lib.Seq.{take_at, drop_at, drop-drop, sets-eq}
use Rattle.machine.specs.Call.{Call, pairs, split, Call.one, Call.two}
use Rattle.machine.specs.Machine.{step, answer, answer_to}
use Rattle.machine.specs.Run.{run, answers}

-- ---- at the front of the words that are left
pub split-last : (w : ℕ) → split (w ∷ []) ≡ one w ∷ split []
unfolding split
split-last w = refl

-- two words that make one call
pub split-two : (w v : ℕ) (ws : List ℕ) → pairs w v ≡ true → split (w ∷ (v ∷ ws)) ≡ two w v ∷ split ws
unfolding split
split-two w v ws h = rw h

-- a word that makes no call with the next
pub split_one : (w v : ℕ) (ws : List ℕ) → pairs w v ≡ false → split (w ∷ (v ∷ ws)) ≡ one w ∷ split (v ∷ ws)
unfolding split
split_one w v ws h = rw h

-- a call for every word at most
pub split-few : (ws : List ℕ) → length (split ws) ≤ length ws
unfolding split
split-few [] = zero-le
split-few (w ∷ []) = omega arith
split-few (w ∷ (v ∷ ws)) = go (pairs w v) (split-few ws) (split-few (v ∷ ws))
  where
    go :
        (b : Bool)
        → length (split ws) ≤ length ws
        → length (split (v ∷ ws)) ≤ suc (length ws)
        → length (cond b (two w v ∷ split ws) (one w ∷ split (v ∷ ws))) ≤ suc (suc (length ws))
    go true h k = omega arith
    go false h k = omega arith

-- ---- a run call by call
pub answer-length : (t : List ℕ) (c : Call) → length (answer t c) ≡ 3
unfolding answer answer_to
answer-length t c = refl

-- three words written one after the other
pub three-sets : (xs : List ℕ) (at a b d : ℕ) → at + 3 ≤ length xs → set (set (set xs at a) (at + 1) b) (at + 2) d ≡ take at xs ++ (a ∷ (b ∷ (d ∷ drop (at + 3) xs)))
three-sets xs at a b d h =
    rw (add-one at, add-two at) (sets-eq (a ∷ (b ∷ (d ∷ []))) xs at h ∙ append_assoc (take at xs) _ _)

-- A run in progress: k calls of the list ws are done, the words left are still to be split, t is the table now, and the space
-- holds the answers so far, its words after them untouched.
pub record Running (t₀ ws space₀ t left : List ℕ) (k : ℕ) (space : List ℕ) : Type 0 where
  pub done : List ℕ
  pub long : length done ≡ 3 * k
  pub filled : space ≡ done ++ drop (3 * k) space₀
  pub table : run t (split left) ≡ run t₀ (split ws)
  pub answered : done ++ answers t (split left) ≡ answers t₀ (split ws)
  pub count : k + length (split left) ≡ length (split ws)

pub running-start : (t ws space : List ℕ) → Running t ws space t ws 0 space
running-start t ws space =
    record { done = []; long = refl; filled = refl; table = refl; answered = refl; count = omega arith }

-- one call more, whose three answer words are written after the others
pub running-next : {t₀ ws space₀ t left : List ℕ} {k : ℕ} {space : List ℕ} (left' : List ℕ) (c : Call) (space' : List ℕ) → Running t₀ ws space₀ t left k space → split left ≡ c ∷ split left' → space' ≡ take (3 * k) space ++ (answer t c ++ drop (3 * k + 3) space) → Running t₀ ws space₀ (step t c) left' (k + 1) space'
unfolding run answers
running-next {t₀} {ws} {space₀} {t} {left} {k} {space} left' c space' r e w =
    record {
      done = r.done ++ answer t c;
      long = length-append r.done (answer t c) ∙ ap₂ ◌+◌ r.long (answer-length t c) ∙ omega arith;
      filled =
          w
          ∙ ap₂ (λ (x y : List ℕ). x ++ (answer t c ++ y)) before behind
          ∙ sym (append_assoc r.done (answer t c) (drop (3 * (k + 1)) space₀));
      table = sym (ap (run t) e) ∙ r.table;
      answered = append_assoc r.done (answer t c) (answers (step t c) (split left')) ∙ ap (λ (cs : List Call). r.done ++ answers t cs) (sym e) ∙ r.answered;
      count = let z : length (split left) ≡ suc (length (split left')) = ap length e in omega (arith, r.count);
    }
  where
    before : take (3 * k) space ≡ r.done
    before = ap (take (3 * k)) r.filled ∙ take_at r.done (drop (3 * k) space₀) (3 * k) r.long

    behind : drop (3 * k + 3) space ≡ drop (3 * (k + 1)) space₀
    behind =
        let next : 3 * k + 3 ≡ 3 * (k + 1) = omega arith in
        sym (drop-drop 3 (3 * k) space)
        ∙ ap (λ (x : List ℕ). drop 3 (drop (3 * k) x)) r.filled
        ∙ ap (drop 3) (drop_at r.done (drop (3 * k) space₀) (3 * k) r.long)
        ∙ drop-drop 3 (3 * k) space₀
        ∙ ap (λ (i : ℕ). drop i space₀) next

-- no word left: the run is done
pub running-end : {t₀ ws space₀ t : List ℕ} {k : ℕ} {space : List ℕ} → Running t₀ ws space₀ t [] k space → (t ≡ run t₀ (split ws)) × (space ≡ answers t₀ (split ws) ++ drop (3 * length (split ws)) space₀) × (k ≡ length (split ws))
unfolding run answers split
running-end {t₀} {ws} {space₀} {t} {k} {space} r =
    let n : k ≡ length (split ws) = omega (arith, r.count) in
    (r.table, r.filled ∙ ap₂ (λ (d : List ℕ) (i : ℕ). d ++ drop (3 * i) space₀) (sym (append-nil r.done) ∙ r.answered) n, n)
