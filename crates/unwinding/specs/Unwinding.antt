-- Noninterference by unwinding, for any machine whose calls have callers. Nothing here depends on a table. The theory and its
-- names are CapFlow's (SM: run, interferes, sources, ipurge, the unwinding conditions), with additions: a call's answer is
-- seen by its caller; the theorem is about every choice of purged calls and not about the ipurge alone; a caller need be no
-- domain (`Domain`); and the states are those that are `ok`, a relation of the user's, in place of those that one first state
-- leads to. The conditions are about one call each. What follows from them is about lists of any length.
-- The machine of document 01 is one instance (crates/machine/proofs/Purge). Its modules cite this one by `unwinding.` alone, so
-- that document 01's run, sources and noninterference are those without a prefix.
use Rattle.std.specs.Prelude.{ℕ, ◌≡◌, Bool, true, false, cond, ◌||◌, List, [], ◌∷◌, ◌++◌, eqb}
use Rattle.std.proofs.Math.Option.{Option, none, some}
use Rattle.unwinding.specs.DomainSet.{member, caller_in, called_by, from_group}

-- A machine. Its domains are indices, and a set of domains is the list of its members.
pub record StateMachine : Type 1 where
  pub State : Type 0
  pub Call : Type 0
  -- the indices that are domains
  pub Domain : ℕ → Type 0
  -- the state after a call, and the words of its answer
  pub step : State → Call → State
  pub out : State → Call → List ℕ
  -- who makes a call; a call may have no caller, and a caller need be no domain
  pub caller : Call → Option ℕ
  -- u has a right on v in a state: this changes with the state
  pub reaches : State → ℕ → ℕ → Bool

module _ (M : StateMachine) where
  open M use {State, Call, step, out, caller, reaches}

  -- the state after calls
  unfoldable pub run : State → List Call → State
  run s [] = s
  run s (c ∷ cs) = run (step s c) cs

  -- what d is answered: the words of each call whose caller is d, in order
  unfoldable pub outputs : ℕ → State → List Call → List ℕ
  outputs d s [] = []
  outputs d s (c ∷ cs) =
      let rest = outputs d (step s c) cs in
      cond (called_by d (caller c)) (out s c ++ rest) rest

  -- u reaches a member
  unfoldable pub reaches_member : State → ℕ → List ℕ → Bool
  reaches_member s u [] = false
  reaches_member s u (v ∷ vs) = reaches s u v || reaches_member s u vs

  -- a set with a call's caller, where that reaches a member
  unfoldable pub with_caller : State → Option ℕ → List ℕ → List ℕ
  with_caller s none vs = vs
  with_caller s (some u) vs = cond (reaches_member s u vs) (u ∷ vs) vs

  -- the domains that can have reached d, at the first of the calls that are run from s; past the last call it is d alone
  unfoldable pub sources : State → List Call → ℕ → List ℕ
  sources s [] d = d ∷ []
  sources s (c ∷ cs) d = with_caller s (caller c) (sources (step s c) cs d)

  -- exactly the calls whose caller is in the set at that call
  unfoldable pub ipurge : State → List Call → ℕ → List Call
  ipurge s [] d = []
  ipurge s (c ∷ cs) d =
      let rest = ipurge (step s c) cs d in
      cond (caller_in (caller c) (sources s (c ∷ cs) d)) (c ∷ rest) rest

  -- a call's caller is v or reaches it; a call with no caller interferes with nobody
  unfoldable pub interferes : State → Option ℕ → ℕ → Bool
  interferes s none v = false
  interferes s (some u) v = eqb u v || reaches s u v

  -- A choice of purged calls: the second list keeps of the first, run from s, at least the calls whose caller is in the set
  -- at that call.
  pub data Keeps (d : ℕ) : State → List Call → List Call → Type 0 where
    done : {s : State} → Keeps d s [] []
    keep : {s : State} (c : Call) {cs ks : List Call} → Keeps d (step s c) cs ks → Keeps d s (c ∷ cs) (c ∷ ks)
    purged :
        {s : State} (c : Call) {cs ks : List Call}
        → caller_in (caller c) (sources s (c ∷ cs) d) ≡ false
        → Keeps d (step s c) cs ks
        → Keeps d s (c ∷ cs) ks

  -- along the calls run from s, a caller that reaches a member of the group P is a member
  abbrev pub Closed : (ℕ → Type 0) → State → List Call → Type 0
  Closed P s [] = Unit {0}
  Closed P s (c ∷ cs) =
      ((u v : ℕ) → caller c ≡ some u → reaches s u v ≡ true → P v → P u) × Closed P (step s c) cs

  -- exactly the calls whose caller is in a group, whatever the run
  unfoldable pub group_calls : (ℕ → Bool) → List Call → List Call
  group_calls group [] = []
  group_calls group (c ∷ cs) =
      let rest = group_calls group cs in
      cond (from_group group (caller c)) (c ∷ rest) rest

-- two states look the same to each member of a set (CapFlow: ivpeq)
abbrev pub SameFor : {S : Type 0} → (ℕ → S → S → Type 0) → List ℕ → S → S → Type 0
SameFor same vs s t = (v : ℕ) → member v vs ≡ true → same v s t

-- Two relations of states are the user's choice: ok, both states are proper and have the same unchanging parts; and same v,
-- the states look the same to the domain v (CapFlow: vpeq).
module _ (M : StateMachine) (ok : M.State → M.State → Type 0) (same : ℕ → M.State → M.State → Type 0) where
  open M use {State, Call, Domain, step, out, caller, reaches}

  -- The unwinding conditions.
  pub record Unwinding : Type 0 where
    -- ok is symmetric and transitive, and a call leaves a state that is ok with the one before it
    pub ok_sym : {s t : State} → ok s t → ok t s
    pub ok_trans : {s t r : State} → ok s t → ok t r → ok s r
    pub ok_step : {s : State} (c : Call) → ok s s → ok s (step s c)
    -- same v is an equivalence
    pub same_refl : {s : State} {v : ℕ} → ok s s → same v s s
    pub same_sym : {s t : State} {v : ℕ} → ok s t → same v s t → same v t s
    pub same_trans : {s t r : State} {v : ℕ} → ok s t → ok t r → same v s t → same v t r → same v s r
    -- only domains reach
    pub reaches_domain : {s : State} {u v : ℕ} → ok s s → reaches s u v ≡ true → Domain u
    -- policy respect: states that look the same to v agree on who reaches it
    pub policy_respect :
        {s t : State} {v : ℕ} (u : ℕ) → ok s t → Domain v → same v s t → reaches s u v ≡ reaches t u v
    -- local respect: a call alters nothing for a domain that its caller doesn't interfere with
    pub local_respect :
        {s : State} {v : ℕ} (c : Call) → ok s s → Domain v → interferes M s (caller c) v ≡ false → same v s (step s c)
    -- weak step consistency: what a call alters for a domain that its caller interferes with depends only on what looks the same
    -- to these two
    pub weakly_step_consistent :
        {s t : State} {u v : ℕ} (c : Call)
        → ok s t
        → Domain u
        → Domain v
        → caller c ≡ some u
        → interferes M s (some u) v ≡ true
        → same u s t
        → same v s t
        → same v (step s c) (step t c)
    -- output consistency: an answer depends only on what looks the same to the caller
    pub output_consistent :
        {s t : State} {u : ℕ} (c : Call) → ok s t → Domain u → caller c ≡ some u → same u s t → out s c ≡ out t c

  -- s and t look the same to every source of the domain d along cs.
  pub record SameForSources (d : ℕ) (s : State) (cs : List Call) (t : State) : Type 0 where
    pub domain : Domain d
    pub proper : ok s t
    pub each : SameFor same (sources M s cs d) s t

  -- What d sees of cs run from s is what it sees of ks run from t (CapFlow: observ-equivalence; here with the answers).
  pub record ObservEquivalent (d : ℕ) (s : State) (cs : List Call) (t : State) (ks : List Call) : Type 0 where
    pub proper : ok (run M s cs) (run M t ks)
    pub state : same d (run M s cs) (run M t ks)
    pub answers : outputs M d s cs ≡ outputs M d t ks

  -- The theorem: from states that look the same to every source of d, d sees the same, whichever calls are purged whose callers
  -- are no sources.
  abbrev pub UnwindingTheorem : Type 0
  UnwindingTheorem =
      Unwinding → (d : ℕ) (s t : State) (cs ks : List Call) → SameForSources d s cs t → Keeps M d s cs ks → ObservEquivalent d s cs t ks

  -- Its cases. First, the ipurge, computed on the second state.
  abbrev pub Noninfluence : Type 0
  Noninfluence = Unwinding → (d : ℕ) (s t : State) (cs : List Call) → SameForSources d s cs t → ObservEquivalent d s cs t (ipurge M t cs d)

  -- The ipurge, on one state.
  abbrev pub Noninterference : Type 0
  Noninterference =
      Unwinding → (d : ℕ) (s : State) (cs : List Call) → Domain d → ok s s → ObservEquivalent d s cs s (ipurge M s cs d)

  -- No call is purged.
  abbrev pub Nonleakage : Type 0
  Nonleakage = Unwinding → (d : ℕ) (s t : State) (cs : List Call) → SameForSources d s cs t → ObservEquivalent d s cs t cs

  -- Every call from outside a group is purged, where d is a member and no caller from outside ever reaches a member.
  abbrev pub GroupNoninfluence : Type 0
  GroupNoninfluence =
      Unwinding → (group : ℕ → Bool) (d : ℕ) (s t : State) (cs : List Call)
      → SameForSources d s cs t
      → group d ≡ true
      → Closed M (λ v. group v ≡ true) s cs
      → ObservEquivalent d s cs t (group_calls M group cs)

  -- The sources computed on the second state are the same.
  abbrev pub SameSources : Type 0
  SameSources = Unwinding → (d : ℕ) (s t : State) (cs : List Call) → SameForSources d s cs t → sources M s cs d ≡ sources M t cs d
