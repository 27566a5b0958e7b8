-- The laws of adding counts to totals: one endpoint after another, and what a sum depends on. Also those of the loop that computes
-- what was lost. Assumes nothing.
use Rattle.std.proofs.Common.{◌≡◌, ℕ, ◌+◌, ◌-◌, ◌%◌, ◌^◌, ◌<◌, min, Bool, cond, ltb, List, length, get_or, set, sym, refl, ap, ◌∙◌, ⊎_elim, arith, length-set, get_or-set_other, get_or-set_same, ext_get_or, ltb-true, le-ltb, lt-ltb}
use native.Mathlib.Decide.{dec_lt}
use Rattle.machine.specs.Below.{words_below}
use Rattle.machine.proofs.Bools.{cond_same}
use Rattle.machine.proofs.Below.{words-length, words-at, words_same}
use Rattle.machine.proofs.Table.{equal-either}
use Rattle.machine.specs.Table.{endpoints, endpoint}
use Rattle.machine.specs.Queue.{waiting}
use Rattle.machine.specs.Call.{split}
use Rattle.machine.specs.Counts.{sent_to, received_from}
use Rattle.totals_add.specs.Balance.{CanBalance, Balances}
use Rattle.totals_add.specs.Added.{added_below}
use Rattle.totals_add.specs.Counts.{came_in, accounted_for, Countable}

module _ (xs : List ℕ) where
  pub length-added : (m : ℕ) (f : ℕ → ℕ) → length (added_below m xs f) ≡ length xs
  unfolding added_below
  length-added m f = words-length (length xs) _

  pub added-at : (m : ℕ) (f : ℕ → ℕ) (e : ℕ) → e < length xs → get_or (added_below m xs f) e 0 ≡ cond (ltb e m) ((get_or xs e 0 + f e) % 2 ^ 64) (get_or xs e 0)
  unfolding added_below
  added-at m f e l = words-at (length xs) (λ e. cond (ltb e m) ((get_or xs e 0 + f e) % 2 ^ 64) (get_or xs e 0)) e 0 l

  -- a sum depends only on what is added below m
  pub added-same : (m : ℕ) (f g : ℕ → ℕ) → ((e : ℕ) → e < m → f e ≡ g e) → added_below m xs f ≡ added_below m xs g
  unfolding added_below
  added-same m f g same =
      words_same (length xs) _ _
      (λ e _. cond_same {b = ltb e m} {x = (get_or xs e 0 + f e) % 2 ^ 64} {y = (get_or xs e 0 + g e) % 2 ^ 64} (get_or xs e 0) refl (λ below. ap (λ (k : ℕ). (get_or xs e 0 + k) % 2 ^ 64) (same e (ltb-true e m below))))

  -- one endpoint after another
  pub added_none : (f : ℕ → ℕ) → added_below 0 xs f ≡ xs
  added_none f =
      ext_get_or 0 (added_below 0 xs f) xs (length-added 0 f)
      (λ e l. added-at 0 f e (omega (arith, length-added 0 f)) ∙ rw (le-ltb e 0 (omega arith)))

  pub added_next : (f : ℕ → ℕ) (i v : ℕ) → i < length xs → v ≡ (get_or (added_below i xs f) i 0 + f i) % 2 ^ 64 → set (added_below i xs f) i v ≡ added_below (i + 1) xs f
  added_next f i v l is =
      ext_get_or 0 (set (added_below i xs f) i v) (added_below (i + 1) xs f) (length-set (added_below i xs f) i v ∙ length-added i f ∙ sym (length-added (i + 1) f))
      (λ e k.
      let within : e < length xs = omega (arith, length-set (added_below i xs f) i v, length-added i f) in
      ⊎_elim (at e) (λ other. elsewhere e within (λ p. other (sym p))) (equal-either i e))
    where
      -- at i the sum of what was there
      at : (e : ℕ) → i ≡ e → get_or (set (added_below i xs f) i v) e 0 ≡ get_or (added_below (i + 1) xs f) e 0
      at e same =
          rw (← same)
          (get_or-set_same (added_below i xs f) i v 0 (omega (arith, length-added i f))
          ∙ is
          ∙ rw (added-at i f i l, added-at (i + 1) f i l, le-ltb i i (omega arith), lt-ltb i (i + 1) (omega arith)))

      elsewhere : (e : ℕ) → e < length xs → (e ≡ i → ⊥) → get_or (set (added_below i xs f) i v) e 0 ≡ get_or (added_below (i + 1) xs f) e 0
      elsewhere e within other =
          get_or-set_other (added_below i xs f) i e v 0 other
          ∙ added-at i f e within
          ∙ ap (λ (b : Bool). cond b ((get_or xs e 0 + f e) % 2 ^ 64) (get_or xs e 0)) (go (dec_lt e i))
          ∙ sym (added-at (i + 1) f e within)
        where
          go : Dec (e < i) → ltb e i ≡ ltb e (i + 1)
          go (yes h) = rw (lt-ltb e i h, lt-ltb e (i + 1) (omega arith))
          go (no h) = rw (le-ltb e i (omega arith), le-ltb e (i + 1) (omega arith))

  -- there is nothing after the end
  pub added-all : (f : ℕ → ℕ) (i m : ℕ) → i ≡ min m (length xs) → added_below i xs f ≡ added_below m xs f
  unfolding added_below
  added-all f i m is =
      words_same (length xs) _ _ (λ e l. ap (λ (b : Bool). cond b ((get_or xs e 0 + f e) % 2 ^ 64) (get_or xs e 0)) (go e l (dec_lt e i)))
    where
      go : (e : ℕ) → e < length xs → Dec (e < i) → ltb e i ≡ ltb e m
      go e l (yes h) = rw (lt-ltb e i h, lt-ltb e m (omega arith))
      go e l (no h) = rw (le-ltb e i (omega arith), le-ltb e m (omega arith))

-- one endpoint more balances
pub balances-next : (i : ℕ) (sent received before after lost : List ℕ) (v : ℕ) → Balances i sent received before after lost → i < length lost
    → v + (get_or received i 0 + get_or after i 0) ≡ get_or sent i 0 + get_or before i 0 → Balances (i + 1) sent received before after (set lost i v)
balances-next i sent received before after lost v x l is e k =
    ⊎_elim
    (λ same. rw (← same) (rw (get_or-set_same lost i v 0 l) is))
    (λ other. rw (get_or-set_other lost i e v 0 (λ p. other (sym p))) (x e (omega arith)))
    (equal-either i e)

-- word e of a list of words, and how many there are
pub word_at : (k : ℕ) (f : ℕ → ℕ) {xs : List ℕ} (e : ℕ) → e < k → xs ≡ words_below k f → get_or xs e 0 ≡ f e
word_at k f e l is = ap (λ (xs : List ℕ). get_or xs e 0) is ∙ words-at k f e 0 l

pub size : (k : ℕ) (f : ℕ → ℕ) {xs : List ℕ} → xs ≡ words_below k f → length xs ≡ k
size k f is = ap length is ∙ words-length k f

-- What a list counts, as the words that were computed: where no more is accounted for than came in, they balance.
pub record CountsOf (t ws answers before sends receives after : List ℕ) : Type 0 where
  pub countable : Countable t ws answers before
  pub sends_are : sends ≡ words_below 32 (λ e. sent_to e (split ws) answers)
  pub receives_are : receives ≡ words_below 32 (λ e. received_from e (split ws) answers)
  pub after_is : after ≡ words_below 32 (λ e. waiting (endpoint t e))

module _ {t ws answers before sends receives after : List ℕ} (x : CountsOf t ws answers before sends receives after) where
  pub sent-at : (e : ℕ) → e < endpoints t → get_or sends e 0 ≡ sent_to e (split ws) answers
  sent-at e l = word_at 32 (λ e. sent_to e (split ws) answers) e (omega (arith, x.countable.few)) x.sends_are

  pub received-at : (e : ℕ) → e < endpoints t → get_or receives e 0 ≡ received_from e (split ws) answers
  received-at e l = word_at 32 (λ e. received_from e (split ws) answers) e (omega (arith, x.countable.few)) x.receives_are

  after-at : (e : ℕ) → e < endpoints t → get_or after e 0 ≡ waiting (endpoint t e)
  after-at e l = word_at 32 (λ e. waiting (endpoint t e)) e (omega (arith, x.countable.few)) x.after_is

  pub can-balance : (m : ℕ) → m ≡ endpoints t → CanBalance m sends receives before after
  can-balance m is =
      record {
        few = omega (arith, x.countable.few);
        enough =
            λ e l.
            let below : e < endpoints t = omega arith in
            omega (arith, sent-at e below, received-at e below, after-at e below, x.countable.enough e below);
        fits =
            λ e l.
            let below : e < endpoints t = omega arith in
            omega (arith, sent-at e below, x.countable.fits e below);
      }

  -- what makes up the difference is what isn't accounted for
  pub lost-at : (full : List ℕ) (m : ℕ) → m ≡ endpoints t → Balances m sends receives before after full → (e : ℕ) → e < endpoints t
      → get_or full e 0 ≡ came_in e ws answers before - accounted_for e t ws answers
  lost-at full m is balances e l = omega (arith, balances e (omega arith), sent-at e l, received-at e l, after-at e l)

-- the totals to which such words are added, for the endpoints below m
pub added-words : (t xs : List ℕ) {xs' : List ℕ} (counts : List ℕ) (m : ℕ) (f : ℕ → ℕ) → m ≡ endpoints t → ((e : ℕ) → e < endpoints t → get_or counts e 0 ≡ f e)
    → xs' ≡ added_below m xs (λ e. get_or counts e 0) → xs' ≡ added_below (endpoints t) xs f
added-words t xs {xs'} counts m f is same sum =
    sum ∙ ap (λ (k : ℕ). added_below k xs (λ e. get_or counts e 0)) is ∙ added-same xs (endpoints t) (λ e. get_or counts e 0) f same
