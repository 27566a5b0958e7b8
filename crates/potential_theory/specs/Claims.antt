-- What is claimed of the potential rights. Each claim that begins with `Every` is closed and the type of a theorem in proofs/.
use Rattle.std.specs.Prelude.{ℕ, ◌<◌, ◌≤◌, ◌^◌, ◌≡◌, true, false, ◌↔◌, List, [], ◌∷◌, length}
use Rattle.std.proofs.Math.Option.{some}
use Rattle.machine.specs.Below.{bits_below, has_bit}
use Rattle.machine.specs.Right.{holds}
use Rattle.machine.specs.Table.{domains, rights}
use Rattle.machine.specs.Check.{Accepted}
use Rattle.machine.specs.Call.{Call, caller_of, split}
use Rattle.machine.specs.Machine.{decide, step, code}
use Rattle.machine.specs.Run as machine
use Rattle.machine.specs.Entry.{longest_list}
use Rattle.isolation_theory.specs.PromisedRun.{PromisedRun}
use Rattle.isolation_theory.specs.Component.{component}
use Rattle.potential_theory.specs.Potential.{Potential}
use Rattle.potential_theory.specs.Closure.{potential_rights}
use Rattle.potential_theory.specs.Lists.{potential_list}

-- ---- what is computed

-- The rights computed of an accepted table are exactly the potential ones.
abbrev pub EveryPotentialRight : Type 0
EveryPotentialRight =
    (t : List ℕ) (s : ℕ)
    → Accepted t
    → (h g k : ℕ)
    → h < domains t
    → g < domains t
    → (holds (potential_rights t s h g) (2 ^ k) ≡ true) ↔ Potential t s h g k

-- ---- sound: no list gives more

-- Of calls among n domains: each that is of a known domain is of one of the set s. A stray and a caller at or above n are of none.
abbrev pub KnownCallersIn : ℕ → ℕ → List Call → Type 0
KnownCallersIn n s [] = Unit {0}
KnownCallersIn n s (c ∷ cs) = ((u : ℕ) → caller_of c ≡ some u → u < n → has_bit s u ≡ true) × KnownCallersIn n s cs

-- In the table end no domain has a right that is not potential in t, where the domains of s act.
abbrev pub WithinPotential : List ℕ → ℕ → List ℕ → Type 0
WithinPotential t s end =
    (h g k : ℕ)
    → h < domains t
    → g < domains t
    → holds (rights end h g) (2 ^ k) ≡ true
    → holds (potential_rights t s h g) (2 ^ k) ≡ true

-- Whatever calls are run from an accepted table, however many, refused or not: if their known callers are in s, they give only what
-- is potential.
abbrev pub EveryRunWithinPotential : Type 0
EveryRunWithinPotential =
    (t : List ℕ) (s : ℕ) (cs : List Call)
    → Accepted t
    → KnownCallersIn (domains t) s cs
    → WithinPotential t s (machine.run t cs)

-- The same of the words that the kernel left, for any list that runs.
abbrev pub EveryPromisedRunWithinPotential : Type 0
EveryPromisedRunWithinPotential =
    (t ws : List ℕ) (p : PromisedRun t ws) (s : ℕ) → KnownCallersIn (domains t) s (split ws) → WithinPotential t s p.end

-- the set of all domains
unfoldable pub everyone : List ℕ → ℕ
everyone t = bits_below (domains t) (λ _. true)

-- What all domains together can bring about bounds all calls whatsoever, run from an accepted table.
abbrev pub EveryRunWithinEveryone : Type 0
EveryRunWithinEveryone = (t : List ℕ) (cs : List Call) → Accepted t → WithinPotential t (everyone t) (machine.run t cs)

abbrev pub EveryPromisedRunWithinEveryone : Type 0
EveryPromisedRunWithinEveryone = (t ws : List ℕ) (p : PromisedRun t ws) → WithinPotential t (everyone t) p.end

-- Nothing new becomes possible: what is potential after calls of s, run from an accepted table, was so before them.
abbrev pub EveryRunNothingNew : Type 0
EveryRunNothingNew =
    (t : List ℕ) (s : ℕ) (cs : List Call)
    → Accepted t
    → KnownCallersIn (domains t) s cs
    → (h g k : ℕ)
    → Potential (machine.run t cs) s h g k
    → Potential t s h g k

-- ---- exact: one list gives all

-- The call c is of a domain of s and is done on the table t, not refused.
pub record DoneBy (s : ℕ) (t : List ℕ) (c : Call) : Type 0 where
  pub caller : ℕ
  pub called_by : caller_of c ≡ some caller
  pub acts : has_bit s caller ≡ true
  pub done : code (decide t c) ≡ 0

-- Each of the calls cs is such a call, on the table that the one before left.
abbrev pub AllDoneBy : ℕ → List ℕ → List Call → Type 0
AllDoneBy s t [] = Unit {0}
AllDoneBy s t (c ∷ cs) = DoneBy s t c × AllDoneBy s (step t c) cs

-- The table end has the potential rights of t, all of them.
abbrev pub HasPotential : List ℕ → ℕ → List ℕ → Type 0
HasPotential t s end = (h g : ℕ) → h < domains t → g < domains t → rights end h g ≡ potential_rights t s h g

-- The list ws gives every potential right of t, and is no longer than a list may be.
pub record GivesAll (t : List ℕ) (s : ℕ) (ws : List ℕ) : Type 0 where
  pub few : length ws ≤ longest_list
  pub calls : AllDoneBy s t (split ws)
  pub gives : HasPotential t s (machine.run t (split ws))

-- There is one list that gives all of them from an accepted table, and it is computed.
abbrev pub EveryPotentialListGivesAll : Type 0
EveryPotentialListGivesAll = (t : List ℕ) (s : ℕ) → Accepted t → GivesAll t s (potential_list t s)

-- A run of that list by the kernel leaves them.
abbrev pub EveryPromisedRunGivesAll : Type 0
EveryPromisedRunGivesAll = (t : List ℕ) (s : ℕ) (p : PromisedRun t (potential_list t s)) → HasPotential t s p.end

-- ---- components (document 02 (j)): outside of its component nothing is potential for a domain, whoever acts

abbrev pub EveryPotentialInComponent : Type 0
EveryPotentialInComponent =
    (t : List ℕ) (s h g : ℕ)
    → Accepted t
    → h < domains t
    → g < domains t
    → has_bit (component t h) g ≡ false
    → potential_rights t s h g ≡ 0
