-- The claims about single words (specs/WordClaims). Assumes nothing.
use mathlib.Core.Path.{◌≡◌, refl, sym, ap, subst, ◌∙◌}
use mathlib.Core.Bool.{Bool, true, false, cond, ◌&&◌, true≢false}
use mathlib.Core.Logic.{⊎_elim, ◌≢◌}
use mathlib.Core.List.{List, [], ◌∷◌, ◌++◌, map}
use Prim.Native.Nat.{ℕ, zero, suc, ◌+◌, ◌*◌, ◌-◌, ◌/◌, ◌%◌, ◌^◌, ◌<◌, ◌≤◌}
use native.Mathlib.Nat.{not-suc-le-zero, one-le-pow, pow-suc, add-mul-div_right, add-mul-mod_self_right, mod-eq_of_lt, mul-le-mul_right, mod-lt}
use native.Mathlib.Decide.{dec_lt}
use native.Mathlib.Omega.{arith}
use borrow.Author.Tests.{lt-ltb, le-ltb, ltb-true}
use lib.Arith.{digits_lt, digits_div}
use lib.Dec.{eqb, ltb}
use lib.ListN.{length, get_or, take, drop, set, length-append, length-drop, length-set, get_or-append}
use lib.Pow.{pow-add}
use lib.Seq.{get_or-take, get_or-drop, get_or_at, get_or-append-add, get_or-set_same, get_or-set_other, length-take-le, ext_get_or}
use Rattle.machine.specs.Below.{sum_below, bits_below}
use Rattle.machine.specs.Word.{kind, word}
use Rattle.machine.specs.Table.{domains, endpoints, rights_at, endpoint_at, rights, endpoint, set_endpoint}
use Rattle.machine.specs.Queue.{owner, waiting, empty_slot, received}
use Rattle.machine.specs.Check.{endpoint_ok, Accepted}
use Rattle.machine.specs.Call.{Call, Call.one, Call.two, first, call_kind, pairs, wants_second, split, width, words_of}
use Rattle.machine.specs.Machine.{Decision, Effect, Effect.nothing, Effect.new_rights, Effect.new_endpoint, effect, after, decide, step, code, owned_bits, rights_bits, shown_caller, answer_word, answer_to, answer}
use Rattle.machine.specs.Machine.{Decision.refused, Decision.looked_up, Decision.sends, Decision.receives, Decision.lists_endpoints, Decision.lists_rights, Decision.grants, Decision.removes, Decision.revokes}
use Rattle.machine.specs.WordClaims as claims
use Rattle.machine.specs.WordClaims.{QueuePlace, Names}
use Rattle.machine.proofs.Bools.{cond-elim}
use Rattle.machine.proofs.Below.{below-or-last, bits_at, bits-past}
use Rattle.machine.proofs.Table as table
use Rattle.machine.proofs.Table.{Sized}
use Rattle.machine.proofs.Accepted.{accepted-sized, accepted-counts}
use Rattle.machine.proofs.Queue.{endpoint-sound, waiting-most, received-length, received-count, received-before, received-moved, received-freed, received-stays}
use Rattle.machine.proofs.Exactly.{refuses, row-serves, refused-exactly}
use Rattle.machine.proofs.Step.{rights-held, InOrder, call-in-order}

-- ---- the split of a list

pub split-keeps-words : claims.EverySplitKeepsWords
unfolding split words_of
split-keeps-words [] = refl
split-keeps-words (w ∷ []) = refl
split-keeps-words (w ∷ (v ∷ ws)) = go (pairs w v) (split-keeps-words ws) (split-keeps-words (v ∷ ws))
  where
    go : (b : Bool) → words_of (split ws) ≡ ws → words_of (split (v ∷ ws)) ≡ v ∷ ws → words_of (cond b (two w v ∷ split ws) (one w ∷ split (v ∷ ws))) ≡ w ∷ (v ∷ ws)
    go true e f = ap (λ (l : List ℕ). w ∷ (v ∷ l)) e
    go false e f = ap (◌∷◌ w) f

-- the number of words of each call, by the kinds of the words alone
widths : List ℕ → List ℕ
widths [] = []
widths (k ∷ []) = 1 ∷ []
widths (k ∷ (l ∷ ks)) = cond (wants_second k && eqb l 15) (2 ∷ widths ks) (1 ∷ widths (l ∷ ks))

by-kinds : (ws : List ℕ) → map width (split ws) ≡ widths (map kind ws)
unfolding split width widths pairs
by-kinds [] = refl
by-kinds (w ∷ []) = refl
by-kinds (w ∷ (v ∷ ws)) = go (pairs w v) (by-kinds ws) (by-kinds (v ∷ ws))
  where
    go : (b : Bool) → map width (split ws) ≡ widths (map kind ws) → map width (split (v ∷ ws)) ≡ widths (map kind (v ∷ ws)) → map width (cond b (two w v ∷ split ws) (one w ∷ split (v ∷ ws))) ≡ cond b (2 ∷ widths (map kind ws)) (1 ∷ widths (map kind (v ∷ ws)))
    go true e f = ap (◌∷◌ 2) e
    go false e f = ap (◌∷◌ 1) f

pub split-by-kinds : claims.EverySplitByKinds
split-by-kinds ws vs e = by-kinds ws ∙ ap widths e ∙ sym (by-kinds vs)

-- ---- the words of an answer

-- a decision that refuses nothing has the code 0
served-zero : (d : Decision) → refuses d ≡ false → code d ≡ 0
unfolding refuses code
served-zero (refused n) e = absurd (true≢false e)
served-zero (looked_up e') e = refl
served-zero (sends e' message) e = refl
served-zero (receives e') e = refl
served-zero (lists_endpoints u) e = refl
served-zero (lists_rights u) e = refl
served-zero (grants g h r) e = refl
served-zero (removes g u r) e = refl
served-zero (revokes g h r) e = refl

pub unrefused-zero : claims.EveryUnrefusedAnsweredZero
unfolding answer answer_to
unrefused-zero t c e =
    ap (answer_word c) (ap code ((refused-exactly t c).row e) ∙ served-zero _ (row-serves t c (call_kind c) e))

shown-small : (c : Call) → shown_caller c < 64
unfolding shown_caller
shown-small c =
    cond-elim (λ (u : ℕ). u < 64) (eqb (kind (first c)) 15) (λ _. omega arith) (λ _. mod-lt (first c / 4194304) (omega arith))

pub answer_word_lem : claims.EveryAnswerWord
unfolding answer_word
answer_word_lem c n l =
    let s = shown-small c in
    record { of_kind = omega arith; of_caller = omega arith; of_rest = omega arith; of_code = omega arith }

pub owned-bits : claims.EveryOwnedBits
unfolding owned_bits bits_below
owned-bits t u =
    record {
      owned = bits_at (endpoints t) (λ e. eqb (owner (endpoint t e)) u);
      no_other = bits-past (endpoints t) (λ e. eqb (owner (endpoint t e)) u);
    }

-- a digit above the place j
above : (a gap j : ℕ) → a * 16 ^ (suc gap + j) ≡ (a * 16 ^ gap * 16) * 16 ^ j
above a gap j = rw (pow-add 16 (suc gap) j, pow-suc 16 gap) (omega arith)

-- digits to the base 16, lowest first
module _ (f : ℕ → ℕ) where
  -- k digits are below 16 ^ k
  digits-small : (k : ℕ) → ((i : ℕ) → i < k → f i < 16) → sum_below k (λ i. f i * 16 ^ i) < 16 ^ k
  unfolding sum_below
  digits-small zero small = omega arith
  digits-small (suc k) small =
      let rest = digits-small k (λ i l. small i (omega arith)) in
      omega (arith, pow-suc 16 k, digits_lt (small k (omega arith)) rest)

  -- each is read back
  digit_at : (k : ℕ) → ((i : ℕ) → i < k → f i < 16) → (j : ℕ) → j < k → sum_below k (λ i. f i * 16 ^ i) / 16 ^ j % 16 ≡ f j
  unfolding sum_below
  digit_at zero small j l = absurd (not-suc-le-zero l)
  digit_at (suc k) small j l =
      let fewer : (i : ℕ) → i < k → f i < 16 = λ i b. small i (omega arith) in
      let rest = sum_below k (λ i. f i * 16 ^ i) in
      ⊎_elim
      (λ b.
      let gap = k - suc j in
      let past : k ≡ suc gap + j = omega arith in
      let shape : f k * 16 ^ k ≡ (f k * 16 ^ gap * 16) * 16 ^ j = ap (λ (m : ℕ). f k * 16 ^ m) past ∙ above (f k) gap j in
      ap (λ (x : ℕ). (rest + x) / 16 ^ j % 16) shape
      ∙ ap (λ (x : ℕ). x % 16) (add-mul-div_right rest (f k * 16 ^ gap * 16) (one-le-pow j 16 (omega arith)))
      ∙ add-mul-mod_self_right (rest / 16 ^ j) (f k * 16 ^ gap) 16
      ∙ digit_at k fewer j b)
      (λ e.
      let turned : rest + f k * 16 ^ k ≡ f k * 16 ^ k + rest = omega arith in
      ap (λ (i : ℕ). (rest + f k * 16 ^ k) / 16 ^ i % 16) e
      ∙ ap (λ (x : ℕ). x / 16 ^ k % 16) turned
      ∙ ap (λ (x : ℕ). x % 16) (digits_div (f k) (digits-small k fewer))
      ∙ mod-eq_of_lt (small k (omega arith))
      ∙ ap f (sym e))
      (below-or-last k j l)

-- the digits of the two data words, which are sets of rights
abbrev digit : List ℕ → ℕ → ℕ → ℕ → ℕ
digit t u g i = cond (ltb (g + i) (domains t)) (rights t u (g + i)) 0

digit-small : (t : List ℕ) → Accepted t → (u g i : ℕ) → u < domains t → digit t u g i < 16
digit-small t a u g i lu =
    cond-elim (λ (r : ℕ). r < 16) (ltb (g + i) (domains t))
    (λ b. omega (arith, rights-held t a u (g + i) lu (ltb-true _ _ b)))
    (λ _. omega arith)

pub rights-digits : claims.EveryRightsDigits
unfolding rights_bits
rights-digits t u g a lu =
    let read = digit_at (digit t u g) 8 (λ j _. digit-small t a u g j lu) in
    record {
      held = λ i l b. read i l ∙ rw (lt-ltb (g + i) (domains t) b);
      none = λ i l b. read i l ∙ rw (le-ltb (g + i) (domains t) b);
    }

-- ---- the words of a table

pub accepted-short : claims.EveryAcceptedShort
accepted-short t a =
    let (some, few, most) = accepted-counts t a in
    let n = domains t in
    omega (arith, accepted-sized t a, mul-le-mul_right n few)

-- a receive that moves all the slots after the first up, word by word
module _ (q : List ℕ) (twelve : length q ≡ 12) (w : ℕ) where
  head : length (take 4 q) ≡ 4
  head = length-take-le 4 q (omega arith)

  tail : length (drop 5 q) ≡ 7
  tail = rw length-drop (omega arith)

  abbrev all_up : List ℕ
  all_up = take 4 q ++ (drop 5 q ++ (empty_slot ∷ []))

  all-up-length : length all_up ≡ 12
  all-up-length = length-append (take 4 q) _ ∙ rw (head, length-append (drop 5 q) (empty_slot ∷ [])) (omega (arith, tail))

  up-count : get_or (set all_up 2 w) 2 0 ≡ w
  up-count = get_or-set_same all_up 2 w 0 (omega (arith, all-up-length))

  up-before : (k : ℕ) → k ≢ 2 → k < 4 → get_or (set all_up 2 w) k 0 ≡ get_or q k 0
  up-before k a b =
      get_or-set_other all_up 2 k w 0 a ∙ get_or-append (take 4 q) _ 0 k (omega (arith, head)) ∙ get_or-take 4 q k 0 b

  up-slot : (i : ℕ) → get_or (set all_up 2 w) (4 + i) 0 ≡ get_or (drop 5 q ++ (empty_slot ∷ [])) i 0
  up-slot i =
      get_or-set_other all_up 2 (4 + i) w 0 (λ e. omega arith)
      ∙ ap (λ (k : ℕ). get_or all_up k 0) (rw head)
      ∙ get_or-append-add (take 4 q) (drop 5 q ++ (empty_slot ∷ [])) i 0

  up-moved : (i : ℕ) → i < 7 → get_or (set all_up 2 w) (4 + i) 0 ≡ get_or q (5 + i) 0
  up-moved i l = up-slot i ∙ get_or-append (drop 5 q) _ 0 i (omega (arith, tail)) ∙ get_or-drop 5 q i 0

  up-last : get_or (set all_up 2 w) 11 0 ≡ empty_slot
  up-last = up-slot 7 ∙ get_or_at (drop 5 q) empty_slot [] 0 7 tail

-- in a sound queue the slots that don't move up are empty
module _ (n : ℕ) (q : List ℕ) (twelve : length q ≡ 12) (ok : endpoint_ok n q ≡ true) (some : 1 ≤ waiting q) where
  here : waiting q ≢ 0
  here e = omega arith

  most : waiting q ≤ 8
  most = waiting-most n q ok

  empty-from : (i : ℕ) → i < 8 → waiting q ≤ i → get_or q (4 + i) 0 ≡ empty_slot
  empty-from i l b = ((endpoint-sound n q ok).slots i l).empty b

  -- slot i after either receive, where it isn't one that both move up
  freed : (i : ℕ) → i < 8 → waiting q - 1 ≤ i → get_or (received q) (4 + i) 0 ≡ empty_slot
  freed i l b =
      ⊎_elim (λ e. ap (λ (k : ℕ). get_or (received q) (4 + k) 0) e ∙ received-freed q twelve here most)
      (λ ne.
      received-stays q twelve here most i (omega arith) ∙ empty-from i l (omega arith))
      (table.equal-either i (waiting q - 1))

  freed-up : (w i : ℕ) → i < 8 → waiting q - 1 ≤ i → get_or (set (all_up q twelve w) 2 w) (4 + i) 0 ≡ empty_slot
  freed-up w i l b =
      ⊎_elim (λ e. ap (λ (k : ℕ). get_or (set (all_up q twelve w) 2 w) (4 + k) 0) e ∙ up-last q twelve w)
      (λ ne.
      let next : 4 + (i + 1) ≡ 5 + i = omega arith in
      up-moved q twelve w i (omega arith) ∙ ap (λ (k : ℕ). get_or q k 0) (sym next) ∙ empty-from (i + 1) (omega arith) (omega arith))
      (table.equal-either i 7)

  abbrev left : ℕ
  left = word 5 (waiting q - 1)

  same-slot : (i : ℕ) → i < 8 → get_or (received q) (4 + i) 0 ≡ get_or (set (all_up q twelve left) 2 left) (4 + i) 0
  same-slot i l = go (dec_lt i (waiting q - 1))
    where
      go : Dec (i < waiting q - 1) → get_or (received q) (4 + i) 0 ≡ get_or (set (all_up q twelve left) 2 left) (4 + i) 0
      go (yes b) =
          let next : 4 + (i + 1) ≡ 5 + i = omega arith in
          received-moved q twelve here most i b ∙ ap (λ (k : ℕ). get_or q k 0) next ∙ sym (up-moved q twelve left i (omega (arith, most)))
      go (no b) = freed i l (omega arith) ∙ sym (freed-up left i l (omega arith))

  same_word : (k : ℕ) → k < 12 → get_or (received q) k 0 ≡ get_or (set (all_up q twelve left) 2 left) k 0
  same_word k l = go (dec_lt k 4)
    where
      go : Dec (k < 4) → get_or (received q) k 0 ≡ get_or (set (all_up q twelve left) 2 left) k 0
      go (yes b) =
          ⊎_elim
          (λ e. ap (λ (i : ℕ). get_or (received q) i 0) e ∙ received-count q twelve here most ∙ sym (up-count q twelve left) ∙ ap (λ (i : ℕ). get_or (set (all_up q twelve left) 2 left) i 0) (sym e))
          (λ ne. received-before q twelve here most k ne b ∙ sym (up-before q twelve left k ne b))
          (table.equal-either k 2)
      go (no b) =
          let at : 4 + (k - 4) ≡ k = omega arith in
          subst (λ (i : ℕ). get_or (received q) i 0 ≡ get_or (set (all_up q twelve left) 2 left) i 0) at (same-slot (k - 4) (omega arith))

pub receive-as-before : claims.EveryReceiveAsBefore
receive-as-before n q twelve ok some =
    let len = received-length q twelve (here n q twelve ok some) (most n q twelve ok some) in
    ext_get_or 0 (received q) _ (len ∙ sym (length-set (all_up q twelve 0) 2 _ ∙ all-up-length q twelve 0))
    (λ k l. same_word n q twelve ok some k (omega (arith, len)))

-- what an effect alters: one rights word, or waiting, lost and slot words of one endpoint
abbrev Altered : List ℕ → ℕ → Effect → Type 0
Altered t i nothing = ⊥
Altered t i (new_rights h g s) = i ≡ rights_at (domains t) h g
Altered t i (new_endpoint e q) = QueuePlace t e i

-- an endpoint's name and info are written as they were
identity-stays : (t : List ℕ) → Accepted t → (e : ℕ) (q : List ℕ) → InOrder t (new_endpoint e q) → (k : ℕ) → k < 2 → get_or (set_endpoint t e q) (endpoint_at (domains t) e + k) 0 ≡ get_or t (endpoint_at (domains t) e + k) 0
identity-stays t a e q o k l =
    let z = accepted-sized t a in
    let t' = set_endpoint t e q in
    let same = table.set_endpoint-domains t z e q o.0 o.1 in
    ap (λ (n : ℕ). get_or t' (endpoint_at n e + k) 0) (sym same)
    ∙ sym (table.endpoint-word t' (table.set_endpoint-sized t z e q o.0 o.1) e k (omega arith))
    ∙ ap (λ (x : List ℕ). get_or x k 0) (table.set_endpoint-same t z e q o.0 o.1)
    ∙ sym (get_or-take 2 q k 0 l)
    ∙ ap (λ (x : List ℕ). get_or x k 0) o.2
    ∙ get_or-take 2 (endpoint t e) k 0 l
    ∙ table.endpoint-word t z e k (omega arith)

altered-by : (t : List ℕ) → Accepted t → (i : ℕ) (x : Effect) → InOrder t x → (get_or (after t x) i 0 ≡ get_or t i 0 → ⊥) → Altered t i x
unfolding after
altered-by t a i nothing o differs = absurd (differs refl)
altered-by t a i (new_rights h g s) o differs =
    ⊎_elim (λ e. e) (λ n. absurd (differs (table.set_rights-elsewhere t (accepted-sized t a) h g s o.0 o.1 i n)))
    (table.equal-either i (rights_at (domains t) h g))
altered-by t a i (new_endpoint e q) o differs = go (dec_lt i at) (dec_lt i (at + 12)) (dec_lt i (at + 2))
  where
    at : ℕ
    at = endpoint_at (domains t) e

    z : Sized t
    z = accepted-sized t a

    go : Dec (i < at) → Dec (i < at + 12) → Dec (i < at + 2) → QueuePlace t e i
    go (yes b) _ _ = absurd (differs (table.set_endpoint-before t z e q o.0 o.1 i b))
    go (no _) (no b) _ = absurd (differs (table.set_endpoint-from t z e q o.0 o.1 i (omega arith)))
    go (no b) (yes _) (yes l) =
        let place : at + (i - at) ≡ i = omega arith in
        absurd (differs (subst (λ (j : ℕ). get_or (set_endpoint t e q) j 0 ≡ get_or t j 0) place (identity-stays t a e q o (i - at) (omega arith))))
    go (no b) (yes c) (no l) =
        record { k = i - at; after_info = omega arith; within = omega arith; place = omega arith }

-- by the decision's row
names : (t : List ℕ) (i : ℕ) (d : Decision) → Altered t i (effect t d) → Names t i d
unfolding effect
names t i (refused n) x = x
names t i (looked_up e) x = x
names t i (sends e message) x = x
names t i (receives e) x = x
names t i (lists_endpoints u) x = x
names t i (lists_rights u) x = x
names t i (grants g h r) x = x
names t i (removes g u r) x = x
names t i (revokes g h r) x = x

pub alters-named : claims.EveryCallAltersNamed
unfolding step
alters-named t c i a differs =
    names t i (decide t c) (altered-by t a i (effect t (decide t c)) (call-in-order t c a) differs)
