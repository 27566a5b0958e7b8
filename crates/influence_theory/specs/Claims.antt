-- What is claimed of those that could influence a domain. Each claim that begins with `Every` is closed and the type of a theorem
-- in proofs/. Exact is the source set, and not what shows: one that has REMOVE on d and no other right is in it, though by that
-- right nothing of it shows at d.
use Rattle.std.specs.Prelude.{ℕ, ◌<◌, ◌≤◌, ◌≡◌, true, ◌↔◌, List, ◌++◌, length}
use Rattle.machine.specs.Below.{has_bit}
use Rattle.machine.specs.Table.{domains}
use Rattle.machine.specs.Check.{Accepted}
use Rattle.machine.specs.Call.{Call, split}
use Rattle.machine.specs.Run as machine
use Rattle.machine.specs.Entry.{longest_list}
use Rattle.machine.specs.DomainSet.{member}
use Rattle.machine.specs.Purge.{sources, view}
use Rattle.machine.specs.SameParts.{Agree}
use Rattle.isolation_theory.specs.PromisedRun.{PromisedRun}
use Rattle.isolation_theory.specs.TwoLines.{TwoLines}
use Rattle.isolation_theory.specs.Component.{component, calls_from}
use Rattle.potential_theory.specs.Claims.{KnownCallersIn, AllDoneBy, everyone}
use Rattle.influence_theory.specs.Influence.{CouldInfluence, could_influence}
use Rattle.influence_theory.specs.Lists.{influence_list}

-- ---- what is computed

-- The computed set is exactly those that could influence d.
abbrev pub EveryCouldInfluence : Type 0
EveryCouldInfluence =
    (t : List ℕ) (s d u : ℕ)
    → Accepted t
    → d < domains t
    → (has_bit (could_influence t s d) u ≡ true) ↔ CouldInfluence t s d u

-- It holds domains alone, so that a call of an unknown caller is purged.
abbrev pub EveryInfluenceOfDomains : Type 0
EveryInfluenceOfDomains =
    (t : List ℕ) (s d u : ℕ) → d < domains t → has_bit (could_influence t s d) u ≡ true → u < domains t

-- ---- exact: the sources of d over all lists

-- Sound: whatever calls are run, however many, refused or not, if their known callers are in s, each source of d is in the set.
abbrev pub EverySourceCouldInfluence : Type 0
EverySourceCouldInfluence =
    (t : List ℕ) (s : ℕ) (cs : List Call) (d u : ℕ)
    → Accepted t
    → KnownCallersIn (domains t) s cs
    → d < domains t
    → member u (sources t cs d) ≡ true
    → has_bit (could_influence t s d) u ≡ true

-- The list ws is no longer than a list may be, its calls are of domains of s and none is refused, and for every domain d its
-- sources are exactly those that could influence d.
pub record MakesAllSources (t : List ℕ) (s : ℕ) (ws : List ℕ) : Type 0 where
  pub few : length ws ≤ longest_list
  pub calls : AllDoneBy s t (split ws)
  pub all : (d u : ℕ) → d < domains t → (member u (sources t (split ws) d) ≡ true) ↔ CouldInfluence t s d u

-- Exact: there is one list that serves every pair at once, and it is computed.
abbrev pub EveryInfluenceListMakesAll : Type 0
EveryInfluenceListMakesAll = (t : List ℕ) (s : ℕ) → Accepted t → MakesAllSources t s (influence_list t s)

-- So u is a source of d over some list of calls by domains of s exactly where u is d or a chain of potential rights leads from it
-- to d.
abbrev pub EverySourceExactly : Type 0
EverySourceExactly =
    (t : List ℕ) (s d u : ℕ)
    → Accepted t
    → d < domains t
    → ((cs : List Call) × KnownCallersIn (domains t) s cs × (member u (sources t cs d) ≡ true)) ↔ CouldInfluence t s d u

-- No run makes anybody new: who could influence d after calls of s could do so before them.
abbrev pub EveryRunNobodyNew : Type 0
EveryRunNobodyNew =
    (t : List ℕ) (s : ℕ) (cs : List Call) (d u : ℕ)
    → Accepted t
    → KnownCallersIn (domains t) s cs
    → CouldInfluence (machine.run t cs) s d u
    → CouldInfluence t s d u

-- ---- noninterference by these sets: calls from outside them are purged, and so are strays, which have no caller

-- the calls kept for d: those of the domains that could influence it
unfoldable pub influence_calls : List ℕ → ℕ → List Call → ℕ → List Call
influence_calls t s cs d = calls_from (could_influence t s d) cs

-- For every domain d, what d sees of the run is what it sees of the machine fed these calls alone, from the same table.
abbrev pub InfluenceNoninterference : List ℕ → ℕ → List Call → List ℕ → List ℕ → Type 0
InfluenceNoninterference t s cs answers end =
    (d : ℕ)
    → d < domains t
    → view d cs answers end
    ≡ view d (influence_calls t s cs d) (machine.answers t (influence_calls t s cs d)) (machine.run t (influence_calls t s cs d))

-- Of the machine: any calls, however many, whose known callers are in s. The words rest may follow the answers.
abbrev pub EveryRunInfluenceNoninterference : Type 0
EveryRunInfluenceNoninterference =
    (t : List ℕ) (s : ℕ) (cs : List Call) (rest : List ℕ)
    → Accepted t
    → KnownCallersIn (domains t) s cs
    → InfluenceNoninterference t s cs (machine.answers t cs ++ rest) (machine.run t cs)

-- Of the words that the kernel left, for any list that runs.
abbrev pub EveryPromisedRunInfluenceNoninterference : Type 0
EveryPromisedRunInfluenceNoninterference =
    (t ws : List ℕ) (p : PromisedRun t ws) (s : ℕ)
    → KnownCallersIn (domains t) s (split ws)
    → InfluenceNoninterference t s (split ws) p.answers p.end

-- With all domains as actors nothing is asked of the callers: the machine, and the words that the kernel left.
abbrev pub EveryRunEveryoneNoninterference : Type 0
EveryRunEveryoneNoninterference =
    (t : List ℕ) (cs : List Call) (rest : List ℕ)
    → Accepted t
    → InfluenceNoninterference t (everyone t) cs (machine.answers t cs ++ rest) (machine.run t cs)

abbrev pub EveryPromisedRunEveryoneNoninterference : Type 0
EveryPromisedRunEveryoneNoninterference =
    (t ws : List ℕ) (p : PromisedRun t ws) → InfluenceNoninterference t (everyone t) (split ws) p.answers p.end

-- The same by any larger set, which has at least those that could influence d.
abbrev pub EveryLargerSetNoninterference : Type 0
EveryLargerSetNoninterference =
    (t : List ℕ) (s : ℕ) (cs : List Call) (rest : List ℕ) (d set : ℕ)
    → Accepted t
    → KnownCallersIn (domains t) s cs
    → d < domains t
    → ((u : ℕ) → has_bit (could_influence t s d) u ≡ true → has_bit set u ≡ true)
    → view d cs (machine.answers t cs ++ rest) (machine.run t cs)
    ≡ view d (calls_from set cs) (machine.answers t (calls_from set cs)) (machine.run t (calls_from set cs))

-- Connected components (document 02 (j)) are such sets: the component of d has all that could influence d, whoever acts.
abbrev pub EveryInfluenceInComponent : Type 0
EveryInfluenceInComponent =
    (t : List ℕ) (s d u : ℕ)
    → Accepted t
    → d < domains t
    → has_bit (could_influence t s d) u ≡ true
    → has_bit (component t d) u ≡ true

-- ---- two lines (document 02 (g)), by these sets

-- The tables t and r agree on each that could influence d in t: on the rights it holds, on the rights each domain holds on it, and
-- on the waiting, lost and message words of its endpoints.
abbrev pub AgreeOnInfluence : ℕ → ℕ → List ℕ → List ℕ → Type 0
AgreeOnInfluence s d t r = (v : ℕ) → has_bit (could_influence t s d) v ≡ true → Agree v t r

-- The set computed on the second table is the same.
abbrev pub EveryLinesSameInfluence : Type 0
EveryLinesSameInfluence =
    (t r : List ℕ) (s d : ℕ)
    → TwoLines t r
    → d < domains t
    → AgreeOnInfluence s d t r
    → could_influence t s d ≡ could_influence r s d

-- Of the machine: d sees the same of any calls whose known callers are in s, run from both.
abbrev pub EveryLinesInfluence : Type 0
EveryLinesInfluence =
    (t r : List ℕ) (s : ℕ) (cs : List Call) (d : ℕ)
    → TwoLines t r
    → d < domains t
    → KnownCallersIn (domains t) s cs
    → AgreeOnInfluence s d t r
    → view d cs (machine.answers t cs) (machine.run t cs) ≡ view d cs (machine.answers r cs) (machine.run r cs)

-- Of the words that two runs of the kernel on one list left.
abbrev pub EveryRunsInfluence : Type 0
EveryRunsInfluence =
    (t r ws : List ℕ) (p : PromisedRun t ws) (q : PromisedRun r ws) (s d : ℕ)
    → TwoLines t r
    → d < domains t
    → KnownCallersIn (domains t) s (split ws)
    → AgreeOnInfluence s d t r
    → view d (split ws) p.answers p.end ≡ view d (split ws) q.answers q.end

-- All domains as actors: no call has a known caller outside, so each claim that asks where its callers are holds of any calls.
abbrev pub EveryCallerIsKnown : Type 0
EveryCallerIsKnown = (t : List ℕ) (cs : List Call) → KnownCallersIn (domains t) (everyone t) cs
