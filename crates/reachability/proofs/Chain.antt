-- The closure holds exactly those that have a chain (specs/Chain). A round adds only those with a step to a member. A round that
-- adds nobody below the count of words is followed by none that adds anybody, so as many rounds as there are words close the
-- set. Assumes nothing.
use mathlib.Core.Path.{◌≡◌, refl, sym, ap, subst, ◌∙◌}
use mathlib.Core.Bool.{Bool, true, false, cond, not, ◌&&◌, and-true, and-false, false≢true}
use mathlib.Core.Logic.{◌⊎◌, ◌⊎◌.inl, ◌⊎◌.inr, ⊎_elim}
use mathlib.Core.List.{List, [], ◌∷◌}
use Prim.Native.Nat.{ℕ, zero, suc, ◌/◌, ◌%◌, ◌^◌, ◌<◌, ◌≤◌}
use native.Mathlib.Decide.{dec_lt}
use native.Mathlib.Nat.{not-suc-le-zero}
use native.Mathlib.Omega.{arith}
use borrow.Author.Tests.{ltb-true, ltb-false, not-true, not-false}
use lib.Bits.{bit_or}
use lib.Dec.{eqb, ltb}
use lib.ListN.{length, get_or, get_or-eq_default}
use Rattle.machine.specs.Below.{sum_below, bits_below, has_bit}
use Rattle.machine.proofs.Bools.{and_left, and_right, or_cases, or_right, either}
use Rattle.machine.proofs.Below.{below-or-last, words-at, words-past, bits_at, bits-past}
use Rattle.reachability.specs.Closure.{with_words, widened, rounds, closed}
use Rattle.reachability.specs.Chain.{Chain, Chain.end, Chain.link, linked, ClosedExactly, among, link_words, RelationClosedExactly}
use Rattle.reachability.proofs.Any.{any_below, any_at, none-at}
use Rattle.reachability.proofs.Bits.{bit-or, bit-none, bit-zero, bit-half, bit-own, bit-other}

-- ---- chains

pub chain-trans : {r : ℕ → ℕ → Bool} {d v u : ℕ} → Chain r d v → Chain r v u → Chain r d u
chain-trans c end = c
chain-trans c (link l k) = link l (chain-trans c k)

pub chain-map : {r q : ℕ → ℕ → Bool} {d u : ℕ} → ((u v : ℕ) → r u v ≡ true → q u v ≡ true) → Chain r d u → Chain q d u
chain-map f end = end
chain-map f (link l k) = link (f _ _ l) (chain-map f k)

-- ---- one round

-- whoever was in the set stays, and each with a step to a member joins
module _ (u : ℕ) where
  with-stays : (ws : List ℕ) (members wide : ℕ) → has_bit wide u ≡ true → has_bit (with_words ws members wide) u ≡ true
  unfolding with_words
  with-stays [] members wide h = h
  with-stays (w ∷ ws) members wide h =
      with-stays ws (members / 2) _ (go (eqb (members % 2) 1))
    where
      go : (b : Bool) → has_bit (cond b (bit_or wide w) wide) u ≡ true
      go true = bit-or wide w u ∙ rw h
      go false = h

  with-joins :
      (ws : List ℕ) (members wide v : ℕ)
      → has_bit members v ≡ true
      → linked ws u v ≡ true
      → has_bit (with_words ws members wide) u ≡ true
  unfolding with_words linked
  with-joins [] members wide v m l = absurd (false≢true (sym (bit-none u) ∙ l))
  with-joins (w ∷ ws) members wide zero m l =
      with-stays ws (members / 2) _
      (rw (sym (bit-zero members) ∙ m) (bit-or wide w u ∙ or_right (has_bit wide u) (has_bit w u) l))
  with-joins (w ∷ ws) members wide (suc v) m l = with-joins ws (members / 2) _ v (bit-half members v ∙ m) l

  -- and nobody else
  with-only :
      (ws : List ℕ) (members wide : ℕ)
      → has_bit (with_words ws members wide) u ≡ true
      → (has_bit wide u ≡ true) ⊎ ((v : ℕ) × (has_bit members v ≡ true) × (linked ws u v ≡ true))
  unfolding with_words linked
  with-only [] members wide h = inl h
  with-only (w ∷ ws) members wide h =
      ⊎_elim (go (eqb (members % 2) 1) (bit-zero members))
      (λ x. inr (suc x.0, sym (bit-half members x.0) ∙ x.1, x.2))
      (with-only ws (members / 2) _ h)
    where
      go :
          (b : Bool)
          → has_bit members 0 ≡ b
          → has_bit (cond b (bit_or wide w) wide) u ≡ true
          → (has_bit wide u ≡ true) ⊎ ((v : ℕ) × (has_bit members v ≡ true) × (linked (w ∷ ws) u v ≡ true))
      go true m h = ⊎_elim inl (λ l. inr (0, m, l)) (or_cases (has_bit wide u) (has_bit w u) (sym (bit-or wide w u) ∙ h))
      go false m h = inl h

-- ---- sums that differ

sum-le : (k : ℕ) (f g : ℕ → ℕ) → ((i : ℕ) → i < k → f i ≤ g i) → sum_below k f ≤ sum_below k g
unfolding sum_below
sum-le zero f g h = omega arith
sum-le (suc k) f g h = omega (arith, sum-le k f g (λ i l. h i (omega arith)), h k (omega arith))

sum_lt : (k : ℕ) (f g : ℕ → ℕ) → ((i : ℕ) → i < k → f i ≤ g i) → (j : ℕ) → j < k → f j < g j → sum_below k f < sum_below k g
unfolding sum_below
sum_lt zero f g h j l less = absurd (not-suc-le-zero l)
sum_lt (suc k) f g h j l less =
    ⊎_elim (λ b. omega (arith, sum_lt k f g (λ i l. h i (omega arith)) j b less, h k (omega arith)))
    (λ e. omega (arith, sum-le k f g (λ i l. h i (omega arith)), subst (λ i. f i < g i) e less))
    (below-or-last k j l)

sum_ones : (k : ℕ) → sum_below k (λ _. 1) ≡ k
unfolding sum_below
sum_ones zero = refl
sum_ones (suc k) = omega (arith, sum_ones k)

-- ---- all rounds

module _ (ws : List ℕ) where
  stays : (s u : ℕ) → has_bit s u ≡ true → has_bit (widened ws s) u ≡ true
  unfolding widened
  stays s u = with-stays u ws s s

  joins : (s u v : ℕ) → has_bit s v ≡ true → linked ws u v ≡ true → has_bit (widened ws s) u ≡ true
  unfolding widened
  joins s u v = with-joins u ws s s v

  only :
      (s u : ℕ)
      → has_bit (widened ws s) u ≡ true
      → (has_bit s u ≡ true) ⊎ ((v : ℕ) × (has_bit s v ≡ true) × (linked ws u v ≡ true))
  unfolding widened
  only s u = with-only u ws s s

  -- whoever has a step to a member is a member
  Closed : ℕ → Type 0
  Closed s = (u v : ℕ) → has_bit s v ≡ true → linked ws u v ≡ true → has_bit s u ≡ true

  -- a step leads to a number below the count of words
  linked-below : (u v : ℕ) → linked ws u v ≡ true → v < length ws
  unfolding linked
  linked-below u v l = go (dec_lt v (length ws))
    where
      go : Dec (v < length ws) → v < length ws
      go (yes b) = b
      go (no n) =
          absurd (false≢true (sym (ap (λ w. has_bit w u) (get_or-eq_default ws 0 (omega arith)) ∙ bit-none u) ∙ l))

  -- a round that adds nobody below the count of words closes the set, and a closed set stays so
  settled :
      (s : ℕ)
      → ((v : ℕ) → v < length ws → has_bit (widened ws s) v ≡ true → has_bit s v ≡ true)
      → Closed (widened ws s)
  unfolding Closed
  settled s none u v m l = joins s u v (none v (linked-below u v l) m) l

  closed-stays : (k s : ℕ) → Closed s → Closed (rounds k ws s)
  unfolding rounds Closed
  closed-stays zero s c = c
  closed-stays (suc k) s c =
      closed-stays k (widened ws s)
      (settled s (λ v _ h. ⊎_elim (λ m. m) (λ x. c v x.0 x.1 x.2) (only s v h)))

  -- how many numbers below the count of words are not in a set
  absent : ℕ → ℕ → ℕ
  absent s v = cond (has_bit s v) 0 1

  missing : ℕ → ℕ
  missing s = sum_below (length ws) (absent s)

  absent-most : (s v : ℕ) → absent s v ≤ 1
  unfolding absent
  absent-most s v = go (has_bit s v)
    where
      go : (b : Bool) → cond b 0 1 ≤ 1
      go true = omega arith
      go false = omega arith

  absent-less : (s v : ℕ) → absent (widened ws s) v ≤ absent s v
  unfolding absent
  absent-less s v = go (has_bit s v) (has_bit (widened ws s) v) (stays s v)
    where
      go : (a b : Bool) → (a ≡ true → b ≡ true) → cond b 0 1 ≤ cond a 0 1
      go true true f = omega arith
      go true false f = absurd (false≢true (f refl))
      go false true f = omega arith
      go false false f = omega arith

  is-absent : (s v : ℕ) → has_bit s v ≡ false → absent s v ≡ 1
  unfolding absent
  is-absent s v h = rw h

  is_member : (s v : ℕ) → has_bit s v ≡ true → absent s v ≡ 0
  unfolding absent
  is_member s v h = rw h

  -- somebody below the count of words is new in the next round
  fresh : ℕ → ℕ → Bool
  fresh s v = has_bit (widened ws s) v && not (has_bit s v)

  fewer : (s v : ℕ) → v < length ws → fresh s v ≡ true → missing (widened ws s) < missing s
  unfolding missing fresh
  fewer s v l h =
      let new = and_left (has_bit (widened ws s) v) (not (has_bit s v)) h in
      let old : has_bit s v ≡ false = not-true _ (and_right (has_bit (widened ws s) v) (not (has_bit s v)) h) in
      sum_lt (length ws) (absent (widened ws s)) (absent s) (λ i _. absent-less s i) v l
      (omega (arith, is_member (widened ws s) v new, is-absent s v old))

  not-fresh : (s v : ℕ) → has_bit (widened ws s) v ≡ true → fresh s v ≡ false → has_bit s v ≡ true
  unfolding fresh
  not-fresh s v h f = not-false _ (sym (ap (λ b. b && not (has_bit s v)) h) ∙ f)

  -- the pigeonhole: each round that doesn't settle the set leaves fewer missing, so more rounds than are missing settle it
  enough : (k s : ℕ) → missing s < k → Closed (rounds k ws s)
  unfolding rounds
  enough zero s l = absurd (not-suc-le-zero l)
  enough (suc k) s l =
      ⊎_elim
      (λ some.
      let (v, b, h) = any_at (length ws) (fresh s) some in
      enough k (widened ws s) (omega (arith, fewer s v b h)))
      (λ none. closed-stays k (widened ws s) (settled s (λ v b h. not-fresh s v h (none-at (length ws) (fresh s) none v b))))
      (either (any_below (length ws) (fresh s)))

  -- with a member below the count of words fewer are missing than there are words
  few : (s v : ℕ) → v < length ws → has_bit s v ≡ true → missing s < length ws
  unfolding missing
  few s v b m =
      subst (λ n. sum_below (length ws) (absent s) < n) (sum_ones (length ws))
      (sum_lt (length ws) (absent s) (λ _. 1) (λ i _. absent-most s i) v b (omega (arith, is_member s v m)))

  -- as many rounds as there are words close a set
  closed-closed : (s : ℕ) → Closed (closed ws s)
  unfolding closed Closed
  closed-closed s =
      ⊎_elim
      (λ some.
      let (v, b, m) = any_at (length ws) (has_bit s) some in
      enough (length ws) s (few s v b m))
      (λ none.
      closed-stays (length ws) s
      (λ u v m l. absurd (false≢true (sym (none-at (length ws) (has_bit s) none v (linked-below u v l)) ∙ m))))
      (either (any_below (length ws) (has_bit s)))

  -- the last round adds only those with a step to a member
  last-widens : (k s : ℕ) → rounds (suc k) ws s ≡ widened ws (rounds k ws s)
  unfolding rounds
  last-widens zero s = refl
  last-widens (suc k) s = last-widens k (widened ws s)

  pub last-round :
      (k s u : ℕ)
      → has_bit (rounds (suc k) ws s) u ≡ true
      → (has_bit (rounds k ws s) u ≡ true) ⊎ ((v : ℕ) × (has_bit (rounds k ws s) v ≡ true) × (linked ws u v ≡ true))
  last-round k s u h = only (rounds k ws s) u (rw (last-widens k s) at h)

  -- those in the closure have a chain to a member,
  sound :
      (k s u : ℕ) → has_bit (rounds k ws s) u ≡ true → (d : ℕ) × (has_bit s d ≡ true) × Chain (linked ws) d u
  unfolding rounds
  sound zero s u h = (u, h, end)
  sound (suc k) s u h =
      let (d, m, c) = sound k (widened ws s) u h in
      ⊎_elim (λ m. (d, m, c)) (λ x. (x.0, x.1, chain-trans (link x.2 end) c)) (only s d m)

  -- and those that have one are in it
  rounds-stay : (k s u : ℕ) → has_bit s u ≡ true → has_bit (rounds k ws s) u ≡ true
  unfolding rounds
  rounds-stay zero s u h = h
  rounds-stay (suc k) s u h = rounds-stay k (widened ws s) u (stays s u h)

  complete : (s d u : ℕ) → has_bit s d ≡ true → Chain (linked ws) d u → has_bit (closed ws s) u ≡ true
  unfolding closed Closed
  complete s d u m end = rounds-stay (length ws) s d m
  complete s d u m (link {v = v} l c) = closed-closed s _ v (complete s d v m c) l

pub closed-exactly : ClosedExactly
unfolding closed
closed-exactly ws s u = (sound ws (length ws) s u, λ x. complete ws s x.0 u x.1 x.2)

-- ---- a relation below n

-- the words of a relation have its steps
module _ (n : ℕ) (r : ℕ → ℕ → Bool) where
  pub word_at : (v : ℕ) → ltb v n ≡ true → get_or (link_words n r) v 0 ≡ bits_below n (λ u. r u v)
  unfolding link_words
  word_at v l = words-at n (λ v. bits_below n (λ u. r u v)) v 0 (ltb-true v n l)

  pub word-past : (v : ℕ) → ltb v n ≡ false → get_or (link_words n r) v 0 ≡ 0
  unfolding link_words
  word-past v l = words-past n (λ v. bits_below n (λ u. r u v)) v 0 (ltb-false v n l)

  bit_in : (u v : ℕ) → has_bit (bits_below n (λ u. r u v)) u ≡ (ltb u n && r u v)
  bit_in u v =
      ⊎_elim (λ l. bits_at n (λ u. r u v) u (ltb-true u n l) ∙ sym (ap (λ b. b && r u v) l))
      (λ l. bits-past n (λ u. r u v) u (ltb-false u n l) ∙ sym (ap (λ b. b && r u v) l))
      (either (ltb u n))

  pub linked-words : (u v : ℕ) → linked (link_words n r) u v ≡ among n r u v
  unfolding linked among
  linked-words u v =
      ⊎_elim (λ l. ap (λ w. has_bit w u) (word_at v l) ∙ bit_in u v ∙ rw (l, and-true (ltb u n)))
      (λ l. ap (λ w. has_bit w u) (word-past v l) ∙ bit-none u ∙ rw (l, and-false (ltb u n)))
      (either (ltb v n))

pub relation-closed-exactly : RelationClosedExactly
relation-closed-exactly n r d u = (
  λ h.
      let (v, m, c) = (closed-exactly (link_words n r) (2 ^ d) u).0 h in
      subst (λ v. Chain (among n r) v u) (bit-other d v m) (chain-map (λ u v l. sym (linked-words n r u v) ∙ l) c),
  λ c. (closed-exactly (link_words n r) (2 ^ d) u).1 (d, bit-own d, chain-map (λ u v l. linked-words n r u v ∙ l) c),
)
