-- An ask for one's rights (specs/Lists: ask_word): it is done, alters nothing, and its caller becomes a source where it has a right
-- on one. So each round of asks adds to the sources what a round of the closure adds to a set. Assumes nothing.
use mathlib.Core.Path.{◌≡◌, refl, sym, ap, subst, ◌∙◌}
use mathlib.Core.Bool.{Bool, true, false, cond, ◌&&◌, ◌||◌, false≢true}
use mathlib.Core.Logic.{◌⊎◌, ◌⊎◌.inl, ◌⊎◌.inr, ⊎_elim}
use mathlib.Core.List.{List, [], ◌∷◌, ◌++◌, map}
use mathlib.Core.Option.{Option, some}
use Prim.Native.Nat.{ℕ, zero, suc, ◌<◌, ◌≤◌}
use native.Mathlib.Nat.{not-suc-le-zero}
use native.Mathlib.Omega.{arith}
use borrow.Author.Tests.{eqb-true, eq-eqb, lt-ltb}
use lib.Dec.{eqb, ltb}
use lib.ListN.{length, length-append}
use Rattle.machine.specs.Below.{numbers_below, has_bit}
use Rattle.machine.specs.Word.{kind, caller, field_a, field_b, field_c}
use Rattle.machine.specs.Table.{domains}
use Rattle.machine.specs.Call.{Call, Call.one, first, kind_of, call_kind, caller_of, wants_second, unused_fields, all_zero, has_second}
use Rattle.machine.specs.Machine.{decide, effect, after, step, code, Decision.lists_rights}
use Rattle.machine.specs.Guards.{place, framed, places}
use Rattle.machine.proofs.Places.{decide-places}
use Rattle.machine.specs.Influence.{reaches}
use Rattle.machine.specs.DomainSet.{member}
use Rattle.machine.specs.Purge.{reaches_any, joined_by, sources}
use Rattle.machine.specs.Run.{run}
use Rattle.unwinding.proofs.Unwinding.{member-first, grows, reaches-member}
use Rattle.machine.proofs.Bools.{and_intro, or_cases, or_right}
use Rattle.machine.proofs.Purge.{tables, reaches-any, joined_by_lem}
use Rattle.machine.proofs.Below.{below-or-last}
use Rattle.potential_theory.specs.Claims.{DoneBy, AllDoneBy}
use Rattle.potential_theory.proofs.Grant.{AllAlone}
use Rattle.influence_theory.specs.Lists.{ask_word}

-- ---- members and sources, call by call

member-cases : (v w : ℕ) (vs : List ℕ) → member v (w ∷ vs) ≡ true → (v ≡ w) ⊎ (member v vs ≡ true)
unfolding member
member-cases v w vs m = ⊎_elim (λ e. inl (eqb-true v w e)) inr (or_cases (eqb v w) (member v vs) m)

-- a set only grows by a call
stays-joined : (t : List ℕ) (q : Option ℕ) (vs : List ℕ) (v : ℕ) → member v vs ≡ true → member v (joined_by t q vs) ≡ true
stays-joined t q vs v m =
    subst (λ xs. member v xs ≡ true) (joined_by_lem (domains t) t q vs) (grows (tables (domains t)) t q vs v m)

-- so sources over the later calls are sources over all
pub sources-stay :
    (t : List ℕ) (cs ds : List Call) (d v : ℕ)
    → member v (sources (run t cs) ds d) ≡ true
    → member v (sources t (cs ++ ds) d) ≡ true
unfolding sources run
sources-stay t [] ds d v m = m
sources-stay t (c ∷ cs) ds d v m = stays-joined t (caller_of c) _ v (sources-stay (step t c) cs ds d v m)

-- a domain that has a right on a member joins
reaches_some :
    (t : List ℕ) (u v : ℕ) (vs : List ℕ)
    → u < domains t
    → member v vs ≡ true
    → reaches t u v ≡ true
    → (ltb u (domains t) && reaches_any t u vs) ≡ true
reaches_some t u v vs below m r =
    sym (reaches-any (domains t) t u vs) ∙ reaches-member (tables (domains t)) t u vs v m (and_intro (lt-ltb u (domains t) below) r)

-- ---- the word

module _ (u : ℕ) (small : u < 64) where
  ask-kind : kind (ask_word u) ≡ 5
  unfolding ask_word
  ask-kind = omega arith

  ask-by : caller (ask_word u) ≡ u
  unfolding ask_word
  ask-by = omega arith

  ask-target : field_a (ask_word u) ≡ 0
  unfolding ask_word
  ask-target = omega arith

  ask-second : field_b (ask_word u) ≡ 0
  unfolding ask_word
  ask-second = omega arith

  ask-third : field_c (ask_word u) ≡ 0
  unfolding ask_word
  ask-third = omega arith

  ask-caller : caller_of (one (ask_word u)) ≡ some u
  unfolding caller_of first
  ask-caller = rw (ask-kind, ask-by)

  ask-alone : wants_second (kind (ask_word u)) ≡ false
  unfolding wants_second
  ask-alone = rw ask-kind

  module _ (t : List ℕ) (below : u < domains t) where
    ask-decided : decide t (one (ask_word u)) ≡ lists_rights u
    unfolding call_kind first kind_of places framed place unused_fields all_zero wants_second has_second
    ask-decided = rw (decide-places t (one (ask_word u)), ask-kind, ask-by, ask-target, ask-second, ask-third, lt-ltb u (domains t) below, ask-kind)

    -- it is done, and alters nothing
    ask-done : (s : ℕ) → has_bit s u ≡ true → DoneBy s t (one (ask_word u))
    unfolding code
    ask-done s acts = record { caller = u; called_by = ask-caller; acts = acts; done = ap code ask-decided }

    ask-keeps : step t (one (ask_word u)) ≡ t
    unfolding step effect after
    ask-keeps = rw ask-decided

    -- the sources with an ask in front
    asked : (cs : List Call) (d : ℕ) → sources t (one (ask_word u) ∷ cs) d ≡ joined_by t (some u) (sources t cs d)
    unfolding sources
    asked cs d = rw (ask-caller, ask-keeps)

    ask-stays : (cs : List Call) (d v : ℕ) → member v (sources t cs d) ≡ true → member v (sources t (one (ask_word u) ∷ cs) d) ≡ true
    ask-stays cs d v m = rw (asked cs d) (stays-joined t (some u) (sources t cs d) v m)

    ask-joins :
        (cs : List Call) (d v : ℕ)
        → member v (sources t cs d) ≡ true
        → reaches t u v ≡ true
        → member u (sources t (one (ask_word u) ∷ cs) d) ≡ true
    unfolding joined_by
    ask-joins cs d v m r =
        rw (asked cs d, reaches_some t u v (sources t cs d) below m r) (member-first u (sources t cs d))

-- ---- asks one after the other

-- each of the domains us is below the count k and acts
abbrev pub AllActors : ℕ → ℕ → List ℕ → Type 0
AllActors k s [] = Unit {0}
AllActors k s (u ∷ us) = ((u < k) × (has_bit s u ≡ true)) × AllActors k s us

module _ (t : List ℕ) (s : ℕ) (few : domains t ≤ 16) where
  pub asks-alone : (us : List ℕ) → AllActors (domains t) s us → AllAlone (map ask_word us)
  asks-alone [] all = tt
  asks-alone (u ∷ us) all = (ask-alone u (omega (arith, all.0.0)), asks-alone us all.1)

  pub asks-keep : (us : List ℕ) → AllActors (domains t) s us → run t (map one (map ask_word us)) ≡ t
  unfolding run
  asks-keep [] all = refl
  asks-keep (u ∷ us) all =
      ap (λ x. run x (map one (map ask_word us))) (ask-keeps u (omega (arith, all.0.0)) t all.0.0) ∙ asks-keep us all.1

  pub asks-done : (us : List ℕ) → AllActors (domains t) s us → AllDoneBy s t (map one (map ask_word us))
  asks-done [] all = tt
  asks-done (u ∷ us) all =
      let small : u < 64 = omega (arith, all.0.0) in (
        ask-done u small t all.0.0 s all.0.1,
        subst (λ x. AllDoneBy s x (map one (map ask_word us))) (sym (ask-keeps u small t all.0.0)) (asks-done us all.1),
      )

  -- what was there stays, and whoever asks and has a right on one that was there joins
  pub asks-stay :
      (us : List ℕ) (cs : List Call) (d v : ℕ)
      → AllActors (domains t) s us
      → member v (sources t cs d) ≡ true
      → member v (sources t (map one (map ask_word us) ++ cs) d) ≡ true
  asks-stay [] cs d v all m = m
  asks-stay (u ∷ us) cs d v all m = ask-stays u (omega (arith, all.0.0)) t all.0.0 _ d v (asks-stay us cs d v all.1 m)

  pub asks-join :
      (us : List ℕ) (cs : List Call) (d u v : ℕ)
      → AllActors (domains t) s us
      → member u us ≡ true
      → member v (sources t cs d) ≡ true
      → reaches t u v ≡ true
      → member u (sources t (map one (map ask_word us) ++ cs) d) ≡ true
  unfolding member
  asks-join [] cs d u v all i m r = absurd (false≢true i)
  asks-join (w ∷ us) cs d u v all i m r =
      let small : w < 64 = omega (arith, all.0.0) in
      let before = map one (map ask_word us) ++ cs in
      ⊎_elim
      (λ e.
      subst (λ x. member x (sources t (one (ask_word w) ∷ before) d) ≡ true) (sym e)
      (ask-joins w small t all.0.0 before d v (asks-stay us cs d v all.1 m) (subst (λ x. reaches t x v ≡ true) e r)))
      (λ i'. ask-stays w small t all.0.0 before d u (asks-join us cs d u v all.1 i' m r))
      (member-cases u w us i)

-- ---- those below k that act

actors-append : (k s : ℕ) (us vs : List ℕ) → AllActors k s us → AllActors k s vs → AllActors k s (us ++ vs)
actors-append k s [] vs p q = q
actors-append k s (u ∷ us) vs p q = (p.0, actors-append k s us vs p.1 q)

numbers-actors : (j k s : ℕ) → j ≤ k → AllActors k s (numbers_below j (has_bit s))
unfolding numbers_below
numbers-actors zero k s l = tt
numbers-actors (suc j) k s l =
    actors-append k s (numbers_below j (has_bit s)) _ (numbers-actors j k s (omega arith)) (go (has_bit s j) refl)
  where
    go : (b : Bool) → has_bit s j ≡ b → AllActors k s (cond b (j ∷ []) [])
    go true e = ((omega arith, e), tt)
    go false e = tt

pub all-actors : (k s : ℕ) → AllActors k s (numbers_below k (has_bit s))
all-actors k s = numbers-actors k k s (omega arith)

member-left : (u : ℕ) (us vs : List ℕ) → member u us ≡ true → member u (us ++ vs) ≡ true
unfolding member
member-left u [] vs m = absurd (false≢true m)
member-left u (w ∷ us) vs m =
    ⊎_elim (λ e. ap (λ b. b || member u (us ++ vs)) (eq-eqb u w e))
    (λ m'. or_right (eqb u w) (member u (us ++ vs)) (member-left u us vs m'))
    (member-cases u w us m)

member_right : (u : ℕ) (us vs : List ℕ) → member u vs ≡ true → member u (us ++ vs) ≡ true
unfolding member
member_right u [] vs m = m
member_right u (w ∷ us) vs m = or_right (eqb u w) _ (member_right u us vs m)

pub is-actor : (k s u : ℕ) → u < k → has_bit s u ≡ true → member u (numbers_below k (has_bit s)) ≡ true
unfolding numbers_below
is-actor zero s u l h = absurd (not-suc-le-zero l)
is-actor (suc k) s u l h =
    ⊎_elim (λ b. member-left u (numbers_below k (has_bit s)) _ (is-actor k s u b h))
    (λ e. member_right u (numbers_below k (has_bit s)) _ (rw (← e, h) (member-first u [])))
    (below-or-last k u l)

pub actors-few : (k s : ℕ) → length (numbers_below k (has_bit s)) ≤ k
unfolding numbers_below
actors-few zero s = omega arith
actors-few (suc k) s =
    omega (arith, length-append (numbers_below k (has_bit s)) (cond (has_bit s k) (k ∷ []) []), actors-few k s, go (has_bit s k))
  where
    go : (b : Bool) → length (cond b (k ∷ []) []) ≤ 1
    go true = omega arith
    go false = omega arith
