-- Laws of reading and writing a table (specs/Table): what is written is read back, and nothing else changes. The other
-- modules cite these wherever they read or write by domain or endpoint. Assumes nothing.
use mathlib.Core.Path.{◌≡◌, sym, ap, subst, ◌∙◌}
use mathlib.Core.Logic.{◌⊎◌, ◌⊎◌.inl, ◌⊎◌.inr, ⊎_elim}
use native.Mathlib.Decide.{dec_lt, ℕ_discrete}
use borrow.Rule.Slice.PartMut.{same_len_mid}
use mathlib.Core.List.{List, ◌++◌}
use Prim.Native.Nat.{ℕ, ◌+◌, ◌*◌, ◌-◌, ◌/◌, ◌%◌, ◌<◌, ◌≤◌}
use native.Mathlib.Omega.{arith}
use lib.ListN.{length, get_or, take, drop, length-set, length-drop, get_or-append}
use lib.Seq.{get_or-set_same, get_or-set_other, length-take-le, get_or-take, get_or-drop, ext_get_or, take_at, drop_at, get_or-append-add}
use lib.Arith.{digits_lt, digits_div, digits_mod}
use Rattle.machine.specs.Word.{word}
use Rattle.machine.specs.Table.{domains, endpoints, length_for, rights_at, endpoint_at, rights_word, endpoint, set_rights, set_endpoint}

-- A table of the length that its first word requires.
abbrev pub Sized : List ℕ → Type 0
Sized t = length t ≡ length_for (domains t) (endpoints t)

-- the places of words: the rights words are after word 0 and before the endpoints, each at its own place
pub rights-below : (n h g : ℕ) → h < n → g < n → rights_at n h g < 1 + n * n
rights-below n h g p q = let k : h * n + g < n * n = digits_lt p q in omega arith

pub rights-apart : (n h g h' g' : ℕ) → g < n → g' < n → rights_at n h g ≡ rights_at n h' g' → (h ≡ h') × (g ≡ g')
rights-apart n h g h' g' p q e =
    let same : h * n + g ≡ h' * n + g' = omega arith in
    (sym (digits_div h p) ∙ ap (λ (x : ℕ). x / n) same ∙ digits_div h' q, sym (digits_mod h p) ∙ ap (λ (x : ℕ). x % n) same ∙ digits_mod h' q)

pub endpoint-fits : (n m e : ℕ) → e < m → endpoint_at n e + 12 ≤ length_for n m
endpoint-fits n m e h = omega arith

-- two numbers that differ are one below the other
pub apart : (f e : ℕ) → (f ≡ e → ⊥) → (f < e) ⊎ (e < f)
apart f e ne = go (dec_lt f e)
  where
    go : Dec (f < e) → (f < e) ⊎ (e < f)
    go (yes l) = inl l
    go (no n) = inr (omega arith)

-- two numbers, and two pairs of numbers, are equal or not
pub equal-either : (f e : ℕ) → (f ≡ e) ⊎ (f ≡ e → ⊥)
equal-either f e = go (ℕ_discrete f e)
  where
    go : Dec (f ≡ e) → (f ≡ e) ⊎ (f ≡ e → ⊥)
    go (yes x) = inl x
    go (no n) = inr n

pub pair-either : (x y h g : ℕ) → ((x ≡ h) × (y ≡ g)) ⊎ (x ≡ h → y ≡ g → ⊥)
pair-either x y h g =
    ⊎_elim (λ p. ⊎_elim (λ q. inl (p, q)) (λ n. inr (λ _ q. n q)) (equal-either y g)) (λ n. inr (λ p _. n p)) (equal-either x h)

-- n and m are in word 0
pub domains-header : (s t : List ℕ) → get_or s 0 0 ≡ get_or t 0 0 → domains s ≡ domains t
unfolding domains
domains-header s t e = rw e

pub endpoints-header : (s t : List ℕ) → get_or s 0 0 ≡ get_or t 0 0 → endpoints s ≡ endpoints t
unfolding endpoints
endpoints-header s t e = rw e

module _ (t : List ℕ) (sized : Sized t) where
  -- an endpoint has twelve words
  pub endpoint-length : (e : ℕ) → e < endpoints t → length (endpoint t e) ≡ 12
  unfolding endpoint
  endpoint-length e h =
      length-take-le 12 (drop (endpoint_at (domains t) e) t)
      (simp length-drop (omega (arith, endpoint-fits (domains t) (endpoints t) e h)))

  -- the words of an endpoint, by their place in the table
  pub endpoint-word : (e k : ℕ) → k < 12 → get_or (endpoint t e) k 0 ≡ get_or t (endpoint_at (domains t) e + k) 0
  unfolding endpoint
  endpoint-word e k h =
      get_or-take 12 (drop (endpoint_at (domains t) e) t) k 0 h ∙ get_or-drop (endpoint_at (domains t) e) t k 0

-- Two sized tables with the same n and m and the same words at an endpoint's place have the same endpoint.
pub endpoint-ext : (s t : List ℕ) → Sized s → Sized t → domains s ≡ domains t → endpoints s ≡ endpoints t → (e : ℕ) → e < endpoints t → ((k : ℕ) → k < 12 → get_or s (endpoint_at (domains t) e + k) 0 ≡ get_or t (endpoint_at (domains t) e + k) 0) → endpoint s e ≡ endpoint t e
endpoint-ext s t zs zt d m e h f =
    let hs : e < endpoints s = omega arith in
    ext_get_or 0 (endpoint s e) (endpoint t e) (endpoint-length s zs e hs ∙ sym (endpoint-length t zt e h))
    (λ k l.
    let l' : k < 12 = omega (arith, endpoint-length s zs e hs) in
    endpoint-word s zs e k l'
    ∙ ap (λ (n : ℕ). get_or s (endpoint_at n e + k) 0) d
    ∙ f k l'
    ∙ sym (endpoint-word t zt e k l'))

-- ---- one rights word is written
module _ (t : List ℕ) (sized : Sized t) (h g s : ℕ) (ph : h < domains t) (pg : g < domains t) where
  pub set_rights-length : length (set_rights t h g s) ≡ length t
  unfolding set_rights
  set_rights-length = length-set t (rights_at (domains t) h g) (word 2 s)

  -- the word written, and every other
  pub set_rights-at : get_or (set_rights t h g s) (rights_at (domains t) h g) 0 ≡ word 2 s
  unfolding set_rights
  set_rights-at =
      get_or-set_same t (rights_at (domains t) h g) (word 2 s) 0 (let b = rights-below (domains t) h g ph pg in omega arith)

  pub set_rights-elsewhere : (i : ℕ) → (i ≡ rights_at (domains t) h g → ⊥) → get_or (set_rights t h g s) i 0 ≡ get_or t i 0
  unfolding set_rights
  set_rights-elsewhere i ne = get_or-set_other t (rights_at (domains t) h g) i (word 2 s) 0 ne

  pub set_rights-header : get_or (set_rights t h g s) 0 0 ≡ get_or t 0 0
  set_rights-header = set_rights-elsewhere 0 (λ e. omega arith)

  pub set_rights-domains : domains (set_rights t h g s) ≡ domains t
  set_rights-domains = domains-header _ t set_rights-header

  pub set_rights-endpoints : endpoints (set_rights t h g s) ≡ endpoints t
  set_rights-endpoints = endpoints-header _ t set_rights-header

  pub set_rights-sized : Sized (set_rights t h g s)
  set_rights-sized = rw (set_rights-length, set_rights-domains, set_rights-endpoints) sized

  pub set_rights-same : rights_word (set_rights t h g s) h g ≡ word 2 s
  unfolding rights_word
  set_rights-same = rw set_rights-domains set_rights-at

  pub set_rights-other : (h' g' : ℕ) → g' < domains t → (h' ≡ h → g' ≡ g → ⊥) → rights_word (set_rights t h g s) h' g' ≡ rights_word t h' g'
  unfolding rights_word
  set_rights-other h' g' q ne =
      rw set_rights-domains
      (set_rights-elsewhere (rights_at (domains t) h' g')
      (λ e. let x = rights-apart (domains t) h' g' h g q pg e in ne x.0 x.1))

  -- a rights word is the one written or is as it was
  pub set_rights-either : (h' g' : ℕ) → g' < domains t → ((h' ≡ h) × (g' ≡ g)) ⊎ (rights_word (set_rights t h g s) h' g' ≡ rights_word t h' g')
  set_rights-either h' g' q = ⊎_elim (λ x. inl x) (λ n. inr (set_rights-other h' g' q n)) (pair-either h' g' h g)

  pub set_rights-endpoint : (e : ℕ) → e < endpoints t → endpoint (set_rights t h g s) e ≡ endpoint t e
  set_rights-endpoint e l =
      endpoint-ext (set_rights t h g s) t set_rights-sized sized set_rights-domains set_rights-endpoints e l
      (λ k _.
      set_rights-elsewhere (endpoint_at (domains t) e + k)
      (λ x. let b = rights-below (domains t) h g ph pg in omega arith))

-- ---- an endpoint's twelve words are written
module _ (t : List ℕ) (sized : Sized t) (e : ℕ) (q : List ℕ) (pe : e < endpoints t) (twelve : length q ≡ 12) where
  before-length : length (take (endpoint_at (domains t) e) t) ≡ endpoint_at (domains t) e
  before-length = length-take-le (endpoint_at (domains t) e) t (omega (arith, endpoint-fits (domains t) (endpoints t) e pe))

  pub set_endpoint-length : length (set_endpoint t e q) ≡ length t
  unfolding set_endpoint
  set_endpoint-length =
      same_len_mid (endpoint_at (domains t) e) 12 t q
      (twelve ∙ sym (length-take-le 12 (drop (endpoint_at (domains t) e) t) (simp length-drop (omega (arith, endpoint-fits (domains t) (endpoints t) e pe)))))

  -- the words before the endpoint, of it, and after it
  pub set_endpoint-before : (i : ℕ) → i < endpoint_at (domains t) e → get_or (set_endpoint t e q) i 0 ≡ get_or t i 0
  unfolding set_endpoint
  set_endpoint-before i l =
      get_or-append (take (endpoint_at (domains t) e) t) _ 0 i (omega (arith, before-length))
      ∙ get_or-take (endpoint_at (domains t) e) t i 0 l

  pub set_endpoint-behind : (j : ℕ) → get_or (set_endpoint t e q) (endpoint_at (domains t) e + (12 + j)) 0 ≡ get_or t (endpoint_at (domains t) e + (12 + j)) 0
  unfolding set_endpoint
  set_endpoint-behind j =
      ap (λ (x : ℕ). get_or (set_endpoint t e q) x 0) (rw (before-length, twelve))
      ∙ get_or-append-add (take (endpoint_at (domains t) e) t) (q ++ drop 12 (drop (endpoint_at (domains t) e) t)) (length q + j) 0
      ∙ get_or-append-add q (drop 12 (drop (endpoint_at (domains t) e) t)) j 0
      ∙ get_or-drop 12 (drop (endpoint_at (domains t) e) t) j 0
      ∙ get_or-drop (endpoint_at (domains t) e) t (12 + j) 0

  pub set_endpoint-header : get_or (set_endpoint t e q) 0 0 ≡ get_or t 0 0
  set_endpoint-header = set_endpoint-before 0 (omega arith)

  pub set_endpoint-domains : domains (set_endpoint t e q) ≡ domains t
  set_endpoint-domains = domains-header _ t set_endpoint-header

  pub set_endpoint-endpoints : endpoints (set_endpoint t e q) ≡ endpoints t
  set_endpoint-endpoints = endpoints-header _ t set_endpoint-header

  pub set_endpoint-sized : Sized (set_endpoint t e q)
  set_endpoint-sized = rw (set_endpoint-length, set_endpoint-domains, set_endpoint-endpoints) sized

  pub set_endpoint-rights : (h g : ℕ) → h < domains t → g < domains t → rights_word (set_endpoint t e q) h g ≡ rights_word t h g
  unfolding rights_word
  set_endpoint-rights h g ph pg =
      rw set_endpoint-domains
      (set_endpoint-before (rights_at (domains t) h g) (let b = rights-below (domains t) h g ph pg in omega arith))

  written : take 12 (drop (endpoint_at (domains t) e) (set_endpoint t e q)) ≡ q
  unfolding set_endpoint
  written =
      ap (take 12) (drop_at (take (endpoint_at (domains t) e) t) _ (endpoint_at (domains t) e) before-length)
      ∙ take_at q _ 12 twelve

  pub set_endpoint-same : endpoint (set_endpoint t e q) e ≡ q
  unfolding endpoint
  set_endpoint-same = rw set_endpoint-domains written

  -- a word from the next endpoint on, by its place
  pub set_endpoint-from : (i : ℕ) → endpoint_at (domains t) e + 12 ≤ i → get_or (set_endpoint t e q) i 0 ≡ get_or t i 0
  set_endpoint-from i l =
      let j : ℕ = i - (endpoint_at (domains t) e + 12) in
      let at : endpoint_at (domains t) e + (12 + j) ≡ i = omega arith in
      subst (λ (x : ℕ). get_or (set_endpoint t e q) x 0 ≡ get_or t x 0) at (set_endpoint-behind j)

  pub set_endpoint-other : (f : ℕ) → f < endpoints t → (f ≡ e → ⊥) → endpoint (set_endpoint t e q) f ≡ endpoint t f
  set_endpoint-other f l ne =
      endpoint-ext (set_endpoint t e q) t set_endpoint-sized sized set_endpoint-domains set_endpoint-endpoints f l
      (λ k b.
      ⊎_elim (λ x. set_endpoint-before _ (omega arith)) (λ x. set_endpoint-from _ (omega arith)) (apart f e ne))

  -- an endpoint is the one written or is as it was
  pub set_endpoint-either : (f : ℕ) → f < endpoints t → (f ≡ e) ⊎ (endpoint (set_endpoint t e q) f ≡ endpoint t f)
  set_endpoint-either f l = ⊎_elim (λ x. inl x) (λ n. inr (set_endpoint-other f l n)) (equal-either f e)
