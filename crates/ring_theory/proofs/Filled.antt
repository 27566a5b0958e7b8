-- Twelve words whose last eight are filled one after the other, as loading and storing do. Assumes nothing.
use mathlib.Core.Path.{◌≡◌, refl, sym, ap, ap₂, ◌∙◌}
use mathlib.Core.List.{List, [], ◌∷◌, ◌++◌, append_assoc}
use Prim.Native.Nat.{ℕ, ◌+◌, ◌<◌, ◌≤◌}
use native.Mathlib.Omega.{arith}
use borrow.Author.Count.{below_none, below_more}
use lib.ListN.{length, get_or, take, drop, set, length-set, length-append, length-drop, take-append-drop}
use lib.Seq.{get_or-set_same, get_or-set_other, get_or-drop, take-set-le, take_at, sets-eq, ext_get_or, length-take-le}
use Rattle.machine.specs.Below.{words_below}
use Rattle.machine.proofs.Below.{words-length, words-at}

-- after the front of four, i words are f 0, f 1 and so on
pub record Filled (f : ℕ → ℕ) (front ws : List ℕ) (i : ℕ) : Type 0 where
  pub twelve : length ws ≡ 12
  pub head : take 4 ws ≡ front
  pub each : (j : ℕ) → j < i → get_or ws (4 + j) 0 ≡ f j

module _ (f : ℕ → ℕ) (front ws : List ℕ) where
  pub fill_start : length ws ≡ 12 → take 4 ws ≡ front → Filled f front ws 0
  fill_start long is = record { twelve = long; head = is; each = below_none _ }

  pub fill-next : (i x : ℕ) → Filled f front ws i → i < 8 → x ≡ f i → Filled f front (set ws (4 + i) x) (i + 1)
  fill-next i x s l e =
      record {
        twelve = length-set ws (4 + i) x ∙ s.twelve;
        head = take-set-le 4 ws (4 + i) x (omega arith) ∙ s.head;
        each =
            below_more _ i (λ j b. get_or-set_other ws (4 + i) (4 + j) x 0 (λ q. omega arith) ∙ s.each j b)
            (get_or-set_same ws (4 + i) x 0 (omega (arith, s.twelve)) ∙ e);
      }

  pub fill_end : (i : ℕ) → Filled f front ws i → 8 ≤ i → ws ≡ front ++ words_below 8 f
  fill_end i s l =
      let eight : length (drop 4 ws) ≡ 8 = simp length-drop (omega (arith, s.twelve)) in
      sym (take-append-drop 4 ws)
      ∙ ap₂ (λ (x y : List ℕ). x ++ y) s.head
      (ext_get_or 0 (drop 4 ws) (words_below 8 f) (eight ∙ sym (words-length 8 f))
      (λ j b. get_or-drop 4 ws j 0 ∙ s.each j (omega (arith, eight)) ∙ sym (words-at 8 f j 0 (omega (arith, eight)))))

-- ---- filled after a front that was written just before: four words, or two after two that stay
module _ (f : ℕ → ℕ) (ws₀ ws : List ℕ) (i : ℕ) (long : length ws₀ ≡ 12) (all : 8 ≤ i) where
  pub behind-four :
      (a b c d : ℕ)
      → Filled f (take 4 (set (set (set (set ws₀ 0 a) 1 b) 2 c) 3 d)) ws i
      → ws ≡ a ∷ b ∷ c ∷ d ∷ words_below 8 f
  behind-four a b c d s =
      let four = a ∷ b ∷ c ∷ d ∷ [] in
      fill_end f _ ws i s all
      ∙ ap (λ (x : List ℕ). take 4 x ++ words_below 8 f) (sets-eq four ws₀ 0 (omega arith))
      ∙ ap (λ (x : List ℕ). x ++ words_below 8 f) (take_at four (drop 4 ws₀) 4 refl)

  pub behind-two :
      (a b : ℕ)
      → Filled f (take 4 (set (set ws₀ 2 a) 3 b)) ws i
      → ws ≡ take 2 ws₀ ++ (a ∷ b ∷ words_below 8 f)
  behind-two a b s =
      let four = take 2 ws₀ ++ (a ∷ b ∷ []) in
      let long' : length four ≡ 4 = length-append (take 2 ws₀) (a ∷ b ∷ []) ∙ omega (arith, length-take-le 2 ws₀ (omega arith)) in
      fill_end f _ ws i s all
      ∙ ap (λ (x : List ℕ). take 4 x ++ words_below 8 f) (sets-eq (a ∷ b ∷ []) ws₀ 2 (omega arith))
      ∙ ap (λ (x : List ℕ). x ++ words_below 8 f) (take_at four (drop 4 ws₀) 4 long')
      ∙ append_assoc (take 2 ws₀) (a ∷ b ∷ []) (words_below 8 f)
