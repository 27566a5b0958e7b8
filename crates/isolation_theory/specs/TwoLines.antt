-- The isolation rule between two lines (document 02 (g)): two lines run one list, from tables that differ only where a domain
-- can't be reached, and that domain sees the same on both. Each claim is the type of a theorem in proofs/TwoLines.
use Rattle.std.specs.Prelude.{ℕ, ◌<◌, ◌≡◌, true, List}
use Rattle.machine.specs.Table.{domains, endpoints, endpoint}
use Rattle.machine.specs.Queue.{name, owner, capacity}
use Rattle.machine.specs.Check.{Accepted}
use Rattle.machine.specs.Call.{Call, split}
use Rattle.machine.specs.Run as machine
use Rattle.machine.specs.DomainSet.{member}
use Rattle.machine.specs.Purge.{sources, view}
use Rattle.machine.specs.SameParts.{Agree}
use Rattle.isolation_theory.specs.PromisedRun.{PromisedRun}

-- Two accepted tables with equal n, m, names, owners and capacities, compared as numbers.
pub record TwoLines (s t : List ℕ) : Type 0 where
  pub first : Accepted s
  pub second : Accepted t
  pub same_domains : domains s ≡ domains t
  pub same_endpoints : endpoints s ≡ endpoints t
  pub same_name : (e : ℕ) → e < endpoints t → name (endpoint s e) ≡ name (endpoint t e)
  pub same_owner : (e : ℕ) → e < endpoints t → owner (endpoint s e) ≡ owner (endpoint t e)
  pub same_capacity : (e : ℕ) → e < endpoints t → capacity (endpoint s e) ≡ capacity (endpoint t e)

-- The tables s and t agree on each member of the source set of d over all the calls cs, computed on s: on the rights it holds,
-- on the rights each domain holds on it, and on the waiting, lost and message words of its endpoints.
abbrev pub AgreeOnSources : ℕ → List Call → List ℕ → List ℕ → Type 0
AgreeOnSources d cs s t = (v : ℕ) → member v (sources s cs d) ≡ true → Agree v s t

-- The calls cs run from s and from t: d sees the same of both, and the source set of d over all of them is the same.
pub record SameOnBoth (d : ℕ) (cs : List Call) (s t : List ℕ) : Type 0 where
  pub seen : view d cs (machine.answers s cs) (machine.run s cs) ≡ view d cs (machine.answers t cs) (machine.run t cs)
  pub set : sources s cs d ≡ sources t cs d

-- The isolation rule between two lines, of the machine fed any calls, however many.
abbrev pub IsolationBetweenLines : Type 0
IsolationBetweenLines =
    (s t : List ℕ) (cs : List Call) (d : ℕ)
    → TwoLines s t
    → d < domains s
    → AgreeOnSources d cs s t
    → SameOnBoth d cs s t

-- The isolation rule between two runs of the kernel on one list: what it left on both lines looks the same to d, and the source
-- set of d computed on the second table is the same too.
abbrev pub IsolationBetweenRuns : Type 0
IsolationBetweenRuns =
    (s t ws : List ℕ) (p : PromisedRun s ws) (q : PromisedRun t ws) (d : ℕ)
    → TwoLines s t
    → d < domains s
    → AgreeOnSources d (split ws) s t
    → (view d (split ws) p.answers p.end ≡ view d (split ws) q.answers q.end) × (sources s (split ws) d ≡ sources t (split ws) d)
