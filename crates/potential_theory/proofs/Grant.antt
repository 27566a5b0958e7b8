-- A grant of all the rights that u has on g, as a call on a table: it is done, and adds them to h's (specs/Lists: grant_word). A
-- list of words that take no second is split word by word. Assumes nothing.
use mathlib.Core.Path.{◌≡◌, refl, ap, ◌∙◌}
use mathlib.Core.Bool.{true, false}
use mathlib.Core.List.{List, [], ◌∷◌, ◌++◌, map}
use mathlib.Core.Option.{some}
use Prim.Native.Nat.{ℕ, ◌<◌, ◌≤◌}
use native.Mathlib.Omega.{arith}
use borrow.Author.Tests.{lt-ltb, le-leb}
use lib.Dec.{eqb}
use Rattle.machine.specs.Below.{has_bit}
use Rattle.machine.specs.Word.{kind, payload, caller, field_a, field_b, field_c}
use Rattle.machine.specs.Right.{GRANT, all_rights, is_set, holds, adds, has_any}
use Rattle.machine.specs.Table.{domains, rights, set_rights}
use Rattle.machine.specs.Check.{Accepted}
use Rattle.machine.specs.Call.{Call.one, first, kind_of, call_kind, caller_of, split, wants_second, pairs, unused_fields, all_zero, has_second}
use Rattle.machine.specs.Machine.{decide, effect, after, step, code, Decision.grants}
use Rattle.machine.proofs.Places.{decide-places}
use Rattle.machine.specs.Guards.{place, rights_places, grant_places, framed, places}
use Rattle.machine.specs.Influence.{reaches, influences}
use Rattle.machine.proofs.Bools.{and_intro, or_right}
use Rattle.machine.proofs.Split.{split-last, split_one}
use Rattle.machine.proofs.Right.{holds-le, rights-payload, adds-within}
use Rattle.machine.proofs.Table as table
use Rattle.machine.proofs.Accepted.{accepted-sized, accepted-counts}
use Rattle.machine.proofs.Step.{rights-held}
use Rattle.potential_theory.specs.Lists.{grant_word}
use Rattle.potential_theory.specs.Claims.{DoneBy}
use Rattle.potential_theory.proofs.Sets.{holds-self}

-- ---- the word

module _ (u h g r : ℕ) (lu : u < 64) (lh : h < 256) (lg : g < 64) (lr : r < 256) where
  pub word-kind : kind (grant_word u h g r) ≡ 6
  unfolding grant_word
  word-kind = omega arith

  word-caller : caller (grant_word u h g r) ≡ u
  unfolding grant_word
  word-caller = omega arith

  word-target : field_a (grant_word u h g r) ≡ g
  unfolding grant_word
  word-target = omega arith

  word-recipient : field_b (grant_word u h g r) ≡ h
  unfolding grant_word
  word-recipient = omega arith

  word-rights : field_c (grant_word u h g r) ≡ r
  unfolding grant_word
  word-rights = omega arith

-- ---- the outcome of such a word

module _ (t : List ℕ) (u h g r w : ℕ) (is : kind w ≡ 6) (by : caller w ≡ u) where
  pub grant-caller : caller_of (one w) ≡ some u
  unfolding caller_of first
  grant-caller = rw (is, by)

  grant-decided :
      field_a w ≡ g
      → field_b w ≡ h
      → field_c w ≡ r
      → u < domains t
      → h < domains t
      → g < domains t
      → is_set r ≡ true
      → holds (rights t u g) GRANT ≡ true
      → holds (rights t u g) r ≡ true
      → influences t u h ≡ true
      → decide t (one w) ≡ grants g h r
  unfolding call_kind first kind_of places framed place unused_fields all_zero wants_second has_second grant_places rights_places
  grant-decided target recipient given lu lh lg set may all toward =
      rw (decide-places t (one w), is, by, target, recipient, given, lt-ltb u (domains t) lu, lt-ltb g (domains t) lg, lt-ltb h (domains t) lh, set, may, all, toward, is)

-- ---- on an accepted table

module _ (t : List ℕ) (a : Accepted t) (u h g : ℕ) (lu : u < domains t) (lh : h < domains t) (lg : g < domains t)
    (may : holds (rights t u g) GRANT ≡ true) (some : has_any (rights t u h) ≡ true) where
  -- all that u has on g
  abbrev own : ℕ
  own = rights t u g

  most : own ≤ all_rights
  most = rights-held t a u g lu lg

  is : kind (grant_word u h g own) ≡ 6
  is = let few = (accepted-counts t a).1 in word-kind u h g own (omega arith) (omega arith) (omega arith) (omega (arith, most))

  by : caller (grant_word u h g own) ≡ u
  by = let few = (accepted-counts t a).1 in word-caller u h g own (omega arith) (omega arith) (omega arith) (omega (arith, most))

  toward : influences t u h ≡ true
  unfolding influences reaches
  toward = or_right (eqb u h) (has_any (rights t u h)) some

  decided : decide t (one (grant_word u h g own)) ≡ grants g h own
  unfolding is_set
  decided =
      let few = (accepted-counts t a).1 in
      let least : 1 ≤ own = omega (arith, holds-le own GRANT may) in
      grant-decided t u h g own _ is by
      (word-target u h g own (omega arith) (omega arith) (omega arith) (omega (arith, most)))
      (word-recipient u h g own (omega arith) (omega arith) (omega arith) (omega (arith, most)))
      (word-rights u h g own (omega arith) (omega arith) (omega arith) (omega (arith, most)))
      lu lh lg
      (and_intro (le-leb 1 own least) (le-leb own all_rights most))
      may
      (holds-self own)
      toward

  pub grant-kind : kind (grant_word u h g own) ≡ 6
  grant-kind = is

  pub grant-done : (s : ℕ) → has_bit s u ≡ true → DoneBy s t (one (grant_word u h g own))
  unfolding code
  grant-done s acts =
      record { caller = u; called_by = grant-caller t u h g own _ is by; acts = acts; done = ap code decided }

  granted : step t (one (grant_word u h g own)) ≡ set_rights t h g (adds (rights t h g) own)
  unfolding step effect after
  granted = rw decided

  -- h has them on g besides its own, and every other set is as it was
  pub grant-same : rights (step t (one (grant_word u h g own))) h g ≡ adds (rights t h g) own
  unfolding rights
  grant-same =
      let sum = adds (rights t h g) own in
      ap (λ x. rights x h g) granted
      ∙ ap payload (table.set_rights-same t (accepted-sized t a) h g sum lh lg)
      ∙ rights-payload sum (adds-within _ _ (rights-held t a h g lh lg) most)

  pub grant-other : (h' g' : ℕ) → g' < domains t → (h' ≡ h → g' ≡ g → ⊥) → rights (step t (one (grant_word u h g own))) h' g' ≡ rights t h' g'
  unfolding rights
  grant-other h' g' lg' other =
      ap (λ x. rights x h' g') granted
      ∙ ap payload (table.set_rights-other t (accepted-sized t a) h g _ lh lg h' g' lg' other)

-- ---- a list of grants

-- each word is a grant
abbrev pub AllGrants : List ℕ → Type 0
AllGrants [] = Unit {0}
AllGrants (w ∷ ws) = (kind w ≡ 6) × AllGrants ws

-- no word makes a call with the word after it
abbrev pub AllAlone : List ℕ → Type 0
AllAlone [] = Unit {0}
AllAlone (w ∷ ws) = (wants_second (kind w) ≡ false) × AllAlone ws

pub all-alone-append : (ws vs : List ℕ) → AllAlone ws → AllAlone vs → AllAlone (ws ++ vs)
all-alone-append [] vs p q = q
all-alone-append (w ∷ ws) vs p q = (p.0, all-alone-append ws vs p.1 q)

pub grants-alone : (ws : List ℕ) → AllGrants ws → AllAlone ws
unfolding wants_second
grants-alone [] all = tt
grants-alone (w ∷ ws) all = (rw all.0, grants-alone ws all.1)

pub split-alone : (ws : List ℕ) → AllAlone ws → split ws ≡ map one ws
unfolding split pairs
split-alone [] all = refl
split-alone (w ∷ []) all = split-last w
split-alone (w ∷ (v ∷ ws)) all = split_one w v ws (rw all.0) ∙ ap (one w ∷◌) (split-alone (v ∷ ws) all.1)
