-- The unwinding theorem and its cases (specs/Unwinding), by induction on the choice of purged calls. Assumes nothing.
-- First what holds of sets and sources for every machine, then what the conditions give. Of the letters, m is a membership, p
-- a domain, o an ok, x a same, i an interference or its absence, a an agreement, k a closed group or a choice of purged
-- calls.
use Prim.Native.Nat.{ℕ}
use mathlib.Core.Path.{◌≡◌, refl, sym, ap, ap₂, ◌∙◌, subst}
use mathlib.Core.Bool.{Bool, true, false, cond, ◌||◌, true≢false, false≢true}
use mathlib.Core.List.{List, [], ◌∷◌, ◌++◌}
use mathlib.Core.Option.{Option, none, some}
use lib.Dec.{eqb}
use borrow.Author.Tests.{eqb-true, eq-eqb}
use Rattle.unwinding.specs.DomainSet.{member, caller_in, called_by, from_group}
use Rattle.unwinding.specs.Unwinding.{StateMachine, run, outputs, reaches_member, with_caller, sources, ipurge, interferes}
use Rattle.unwinding.specs.Unwinding.{Keeps, Keeps.done, Keeps.keep, Keeps.purged, Closed, group_calls}
use Rattle.unwinding.specs.Unwinding.{SameFor, Unwinding, SameForSources, ObservEquivalent}
use Rattle.unwinding.specs.Unwinding.{UnwindingTheorem, Noninfluence, Noninterference, Nonleakage, GroupNoninfluence, SameSources}

-- Tests.
either : {P : Type 0} (b : Bool) → (b ≡ true → P) → (b ≡ false → P) → P
either true f g = f refl
either false f g = g refl

or_elim : {P : Type 0} (a b : Bool) → (a ≡ true → P) → (b ≡ true → P) → (a || b) ≡ true → P
or_elim true b f g e = f refl
or_elim false b f g e = g e

or_right : (a b : Bool) → b ≡ true → (a || b) ≡ true
or_right true b h = refl
or_right false b h = h

contra : (a b : Bool) → (a ≡ true → b ≡ true) → b ≡ false → a ≡ false
contra true b f e = absurd (true≢false (sym (f refl) ∙ e))
contra false b f e = refl

-- Members of a set, and callers.
pub member-first : (v : ℕ) (vs : List ℕ) → member v (v ∷ vs) ≡ true
unfolding member
member-first v vs = ap (λ b. b || member v vs) (eq-eqb v v refl)

member-rest : (v w : ℕ) (vs : List ℕ) → member v vs ≡ true → member v (w ∷ vs) ≡ true
unfolding member
member-rest v w vs m = or_right (eqb v w) (member v vs) m

member-elim :
    (P : ℕ → Type 0) (w : ℕ) (vs : List ℕ)
    → P w
    → ((v : ℕ) → member v vs ≡ true → P v)
    → (v : ℕ)
    → member v (w ∷ vs) ≡ true
    → P v
unfolding member
member-elim P w vs p ps v m =
    or_elim (eqb v w) (member v vs) (λ e. subst P (sym (eqb-true v w e)) p) (ps v) m

called : (d : ℕ) (q : Option ℕ) → called_by d q ≡ true → q ≡ some d
unfolding called_by
called d none e = absurd (false≢true e)
called d (some u) e = ap {B = Option ℕ} some (eqb-true u d e)

called-in : (d : ℕ) (q : Option ℕ) (vs : List ℕ) → member d vs ≡ true → called_by d q ≡ true → caller_in q vs ≡ true
unfolding caller_in
called-in d q vs m e = rw (called d q e) m

in_group :
    (group : ℕ → Bool) (q : Option ℕ) (vs : List ℕ)
    → ((v : ℕ) → member v vs ≡ true → group v ≡ true)
    → caller_in q vs ≡ true
    → from_group group q ≡ true
unfolding caller_in from_group
in_group group none vs ps e = absurd (false≢true e)
in_group group (some u) vs ps e = ps u e

-- Sources and choices of purged calls, in any machine.
module _ (M : StateMachine) where
  open M use {State, Call, step, caller, reaches}

  -- u reaches a set where it reaches a member, and only there
  pub reaches-member :
      (s : State) (u : ℕ) (vs : List ℕ) (v : ℕ) → member v vs ≡ true → reaches s u v ≡ true → reaches_member M s u vs ≡ true
  unfolding reaches_member member
  reaches-member s u [] v m r = absurd (false≢true m)
  reaches-member s u (w ∷ vs) v m r =
      member-elim (λ x. reaches s u x ≡ true → reaches_member M s u (w ∷ vs) ≡ true) w vs
      (λ e. ap (λ b. b || reaches_member M s u vs) e)
      (λ x h e. or_right (reaches s u w) (reaches_member M s u vs) (reaches-member s u vs x h e))
      v m r

  reached :
      (s : State) (u : ℕ) (vs : List ℕ)
      → reaches_member M s u vs ≡ true
      → (v : ℕ) × (member v vs ≡ true) × (reaches s u v ≡ true)
  unfolding reaches_member
  reached s u [] r = absurd (false≢true r)
  reached s u (w ∷ vs) r =
      or_elim (reaches s u w) (reaches_member M s u vs)
      (λ e. (w, member-first w vs, e))
      (λ e. let (v, m, f) = reached s u vs e in (v, member-rest v w vs m, f))
      r

  same-member :
      (s t : State) (u : ℕ) (vs : List ℕ)
      → ((v : ℕ) → member v vs ≡ true → reaches s u v ≡ reaches t u v)
      → reaches_member M s u vs ≡ reaches_member M t u vs
  unfolding reaches_member
  same-member s t u [] e = refl
  same-member s t u (v ∷ vs) e =
      ap₂ ◌||◌ (e v (member-first v vs)) (same-member s t u vs (λ w m. e w (member-rest w v vs m)))

  same-joined :
      (s t : State) (q : Option ℕ) (vs : List ℕ)
      → ((u v : ℕ) → member v vs ≡ true → reaches s u v ≡ reaches t u v)
      → with_caller M s q vs ≡ with_caller M t q vs
  unfolding with_caller
  same-joined s t none vs e = refl
  same-joined s t (some u) vs e = ap (λ b. cond b (u ∷ vs) vs) (same-member s t u vs (e u))

  -- the set only grows going back
  pub grows : (s : State) (q : Option ℕ) (vs : List ℕ) (v : ℕ) → member v vs ≡ true → member v (with_caller M s q vs) ≡ true
  unfolding with_caller
  grows s none vs v m = m
  grows s (some u) vs v m =
      either (reaches_member M s u vs) (λ r. rw r (member-rest v u vs m)) (λ r. rw r m)

  -- a caller that interferes with a member is in the set at its call
  joins :
      (s : State) (q : Option ℕ) (vs : List ℕ) (v : ℕ)
      → member v vs ≡ true
      → interferes M s q v ≡ true
      → caller_in q (with_caller M s q vs) ≡ true
  unfolding interferes caller_in with_caller
  joins s none vs v m i = absurd (false≢true i)
  joins s (some u) vs v m i =
      or_elim (eqb u v) (reaches s u v)
      (λ e. grows s (some u) vs u (subst (λ w. member w vs ≡ true) (sym (eqb-true u v e)) m))
      (λ r. rw (reaches-member s u vs v m r) (member-first u vs))
      i

  -- d is among its sources
  pub in-sources : (s : State) (cs : List Call) (d : ℕ) → member d (sources M s cs d) ≡ true
  unfolding sources
  in-sources s [] d = member-first d []
  in-sources s (c ∷ cs) d = grows s (caller c) (sources M (step s c) cs d) d (in-sources (step s c) cs d)

  -- a closed group that has d has every source of d
  joined-closed :
      (P : ℕ → Type 0) (s : State) (q : Option ℕ) (vs : List ℕ)
      → ((u v : ℕ) → q ≡ some u → reaches s u v ≡ true → P v → P u)
      → ((v : ℕ) → member v vs ≡ true → P v)
      → (v : ℕ)
      → member v (with_caller M s q vs) ≡ true
      → P v
  unfolding with_caller
  joined-closed P s none vs k ps v m = ps v m
  joined-closed P s (some u) vs k ps v m =
      either (reaches_member M s u vs) (λ r. member-elim P u vs (joiner r) ps v (rw r at m)) (λ r. ps v (rw r at m))
    where
      joiner : reaches_member M s u vs ≡ true → P u
      joiner r = let (w, h, e) = reached s u vs r in k u w refl e (ps w h)

  pub sources-closed :
      (P : ℕ → Type 0) (s : State) (cs : List Call) (d : ℕ)
      → P d
      → Closed M P s cs
      → (v : ℕ)
      → member v (sources M s cs d) ≡ true
      → P v
  unfolding sources member
  sources-closed P s [] d p k v m = member-elim P d [] p (λ w h. absurd (false≢true h)) v m
  sources-closed P s (c ∷ cs) d p k v m =
      joined-closed P s (caller c) (sources M (step s c) cs d) k.0 (sources-closed P (step s c) cs d p k.1) v m

  -- a test that fails on no call of a source, then the three choices: the ipurge, all calls, and a closed group's calls
  choose :
      {d : ℕ} {s : State} {cs ks : List Call} (c : Call) (b : Bool)
      → (b ≡ false → caller_in (caller c) (sources M s (c ∷ cs) d) ≡ false)
      → Keeps M d (step s c) cs ks
      → Keeps M d s (c ∷ cs) (cond b (c ∷ ks) ks)
  choose c true h k = keep c k
  choose c false h k = purged c (h refl) k

  pub keeps-ipurge : (d : ℕ) (s : State) (cs : List Call) → Keeps M d s cs (ipurge M s cs d)
  unfolding ipurge
  keeps-ipurge d s [] = done
  keeps-ipurge d s (c ∷ cs) =
      choose c (caller_in (caller c) (sources M s (c ∷ cs) d)) (λ e. e) (keeps-ipurge d (step s c) cs)

  pub keeps-all : (d : ℕ) (s : State) (cs : List Call) → Keeps M d s cs cs
  keeps-all d s [] = done
  keeps-all d s (c ∷ cs) = keep c (keeps-all d (step s c) cs)

  pub keeps-group :
      (group : ℕ → Bool) (d : ℕ) (s : State) (cs : List Call)
      → group d ≡ true
      → Closed M (λ v. group v ≡ true) s cs
      → Keeps M d s cs (group_calls M group cs)
  unfolding group_calls
  keeps-group group d s [] h k = done
  keeps-group group d s (c ∷ cs) h k =
      let inside = sources-closed (λ v. group v ≡ true) s (c ∷ cs) d h k in
      let test = in_group group (caller c) (sources M s (c ∷ cs) d) inside in
      choose c (from_group group (caller c)) (contra _ _ test) (keeps-group group d (step s c) cs h k.1)

-- What the conditions give.
module _
    {M : StateMachine}
    {ok : M.State → M.State → Type 0}
    {same : ℕ → M.State → M.State → Type 0}
    (W : Unwinding M ok same) where
  open M use {State, Call, Domain, step, out, caller}
  open W use {ok_sym, ok_trans, ok_step, same_refl, same_sym, same_trans}
  open W use {reaches_domain, policy_respect, local_respect, weakly_step_consistent, output_consistent}

  ok-self : {s t : State} → ok s t → ok s s
  ok-self o = ok_trans o (ok_sym o)

  ok-next : {s t : State} (c : Call) → ok s t → ok (step s c) t
  ok-next c o = ok_trans (ok_sym (ok_step c (ok-self o))) o

  ok-both : {s t : State} (c : Call) → ok s t → ok (step s c) (step t c)
  ok-both c o = ok_sym (ok-next c (ok_sym (ok-next c o)))

  domains-closed : (s : State) (cs : List Call) → ok s s → Closed M Domain s cs
  domains-closed s [] o = tt
  domains-closed s (c ∷ cs) o = (λ u v e r p. reaches_domain o r, domains-closed (step s c) cs (ok-both c o))

  -- each source of d is a domain, to which the states look the same
  known :
      {d : ℕ} {s t : State} {cs : List Call}
      → SameForSources M ok same d s cs t
      → (v : ℕ)
      → member v (sources M s cs d) ≡ true
      → Domain v × same v s t
  known {d} {s} {cs = cs} a v m =
      let closed = domains-closed s cs (ok-self a.proper) in
      (sources-closed M Domain s cs d a.domain closed v m, a.each v m)

  -- so is each source at the next call
  known_next :
      {d : ℕ} {s t : State} (c : Call) (cs : List Call)
      → SameForSources M ok same d s (c ∷ cs) t
      → (v : ℕ)
      → member v (sources M (step s c) cs d) ≡ true
      → Domain v × same v s t
  unfolding sources
  known_next {d} {s} c cs a v m = known a v (grows M s (caller c) (sources M (step s c) cs d) v m)

  -- One call and one domain v: on one side only, by a caller that doesn't interfere with v;
  alone :
      {s t : State} {v : ℕ} (c : Call)
      → ok s t
      → Domain v
      → interferes M s (caller c) v ≡ false
      → same v s t
      → same v (step s c) t
  alone c o p i x =
      let next = ok_step c (ok-self o) in
      same_trans (ok_sym next) o (same_sym next (local_respect c (ok-self o) p i)) x

  same-interferes :
      {s t : State} {v : ℕ} (q : Option ℕ) → ok s t → Domain v → same v s t → interferes M s q v ≡ interferes M t q v
  unfolding interferes
  same-interferes none o p x = refl
  same-interferes {v} (some u) o p x = ap (λ b. eqb u v || b) (policy_respect u o p x)

  -- on both sides, by a caller that doesn't interfere with v;
  respected :
      {s t : State} {v : ℕ} (c : Call)
      → ok s t
      → Domain v
      → interferes M s (caller c) v ≡ false
      → same v s t
      → same v (step s c) (step t c)
  respected c o p i x =
      let o' = ok_sym (ok-next c o) in
      let i' = sym (same-interferes (caller c) o p x) ∙ i in
      same_sym (ok-next c o') (alone c o' p i' (same_sym (ok-next c o) (alone c o p i x)))

  -- and on both sides, by a caller that does and is itself known.
  consistent :
      {s t : State} {v : ℕ} (c : Call) (q : Option ℕ) (vs : List ℕ)
      → caller c ≡ q
      → ok s t
      → ((u : ℕ) → member u vs ≡ true → Domain u × same u s t)
      → caller_in q vs ≡ true
      → Domain v
      → interferes M s q v ≡ true
      → same v s t
      → same v (step s c) (step t c)
  unfolding caller_in
  consistent c none vs e o ps h p i x = absurd (false≢true h)
  consistent c (some u) vs e o ps h p i x = weakly_step_consistent c o (ps u h).0 p e i (ps u h).1 x

  -- One call and all sources of d: on both sides (CapFlow: lemma-1),
  agree-both :
      {d : ℕ} {s t : State} (c : Call) (cs : List Call)
      → SameForSources M ok same d s (c ∷ cs) t
      → SameForSources M ok same d (step s c) cs (step t c)
  unfolding sources
  agree-both {d} {s} {t} c cs a = record { domain = a.domain; proper = ok-both c o; each = each }
    where
      o : ok s t
      o = a.proper

      each : SameFor same (sources M (step s c) cs d) (step s c) (step t c)
      each v m =
          let (p, x) = known_next c cs a v m in
          let joined = joins M s (caller c) (sources M (step s c) cs d) v m in
          either (interferes M s (caller c) v)
          (λ i. consistent c (caller c) (sources M s (c ∷ cs) d) refl o (known a) (joined i) p i x)
          (λ i. respected c o p i x)

  -- and purged.
  agree-purged :
      {d : ℕ} {s t : State} (c : Call) (cs : List Call)
      → SameForSources M ok same d s (c ∷ cs) t
      → caller_in (caller c) (sources M s (c ∷ cs) d) ≡ false
      → SameForSources M ok same d (step s c) cs t
  unfolding sources
  agree-purged {d} {s} {t} c cs a h = record { domain = a.domain; proper = ok-next c a.proper; each = each }
    where
      each : SameFor same (sources M (step s c) cs d) (step s c) t
      each v m =
          let (p, x) = known_next c cs a v m in
          let joined = joins M s (caller c) (sources M (step s c) cs d) v m in
          alone c a.proper p (contra _ _ joined h) x

  -- what d is answered, with one call more in front
  same-answers :
      {d : ℕ} {s t : State} {cs : List Call} {xs ys : List ℕ} (c : Call)
      → SameForSources M ok same d s (c ∷ cs) t
      → xs ≡ ys
      → cond (called_by d (caller c)) (out s c ++ xs) xs ≡ cond (called_by d (caller c)) (out t c ++ ys) ys
  same-answers {d} {s} {cs = cs} c a e =
      let (p, x) = known a d (in-sources M s (c ∷ cs) d) in
      either (called_by d (caller c))
      (λ b. rw b (ap₂ ◌++◌ (output_consistent c a.proper p (called d (caller c) b) x) e))
      (λ b. rw b e)

  observed :
      (d : ℕ) (s t : State) (cs ks : List Call)
      → SameForSources M ok same d s cs t
      → Keeps M d s cs ks
      → ObservEquivalent M ok same d s cs t ks
  unfolding run outputs
  observed d s t cs ks a done =
      record { proper = a.proper; state = a.each d (in-sources M s [] d); answers = refl }
  observed d s t cs ks a (keep c {cs = cs'} {ks = ks'} k) =
      let next = observed d (step s c) (step t c) cs' ks' (agree-both c cs' a) k in
      record { proper = next.proper; state = next.state; answers = same-answers c a next.answers }
  observed d s t cs ks a (purged c {cs = cs'} h k) =
      let next = observed d (step s c) t cs' ks (agree-purged c cs' a h) k in
      let other = contra _ _ (called-in d (caller c) _ (in-sources M s (c ∷ cs') d)) h in
      record { proper = next.proper; state = next.state; answers = rw other next.answers }

  sources-same :
      (d : ℕ) (s t : State) (cs : List Call) → SameForSources M ok same d s cs t → sources M s cs d ≡ sources M t cs d
  unfolding sources
  sources-same d s t [] a = refl
  sources-same d s t (c ∷ cs) a =
      same-joined M s t (caller c) (sources M (step s c) cs d)
      (λ u v m. let (p, x) = known_next c cs a v m in policy_respect u a.proper p x)
      ∙ ap (with_caller M t (caller c)) (sources-same d (step s c) (step t c) cs (agree-both c cs a))

  ipurge-same : (d : ℕ) (s t : State) (cs : List Call) → SameForSources M ok same d s cs t → ipurge M s cs d ≡ ipurge M t cs d
  unfolding ipurge
  ipurge-same d s t [] a = refl
  ipurge-same d s t (c ∷ cs) a =
      ap₂ (λ vs ks. cond (caller_in (caller c) vs) (c ∷ ks) ks)
      (sources-same d s t (c ∷ cs) a)
      (ipurge-same d (step s c) (step t c) cs (agree-both c cs a))

module _ {M : StateMachine} {ok : M.State → M.State → Type 0} {same : ℕ → M.State → M.State → Type 0} where
  pub unwinding : UnwindingTheorem M ok same
  unwinding W = observed W

  pub same-sources : SameSources M ok same
  same-sources W = sources-same W

  pub noninfluence : Noninfluence M ok same
  noninfluence W d s t cs a = observed W d s t cs _ a (rw (← ipurge-same W d s t cs a) (keeps-ipurge M d s cs))

  pub noninterference : Noninterference M ok same
  noninterference W d s cs p o = noninfluence W d s s cs (record { domain = p; proper = o; each = λ v m. W.same_refl o })

  pub nonleakage : Nonleakage M ok same
  nonleakage W d s t cs a = observed W d s t cs cs a (keeps-all M d s cs)

  pub group-noninfluence : GroupNoninfluence M ok same
  group-noninfluence W group d s t cs a h k = observed W d s t cs _ a (keeps-group M group d s cs h k)
