-- Connected components by rights in a table, and that no list joins two of them (document 02 (j), which calls them groups). A
-- claim about the words that a run left is a predicate of table, calls, answers and end. Those that begin with `Every` are
-- closed and the types of theorems in proofs/Component.
use Rattle.std.specs.Prelude.{ℕ, ◌<◌, ◌^◌, ◌≡◌, Bool, true, cond, ◌||◌, ◌↔◌, List, [], ◌∷◌, ◌++◌}
use Rattle.machine.specs.Below.{has_bit}
use Rattle.machine.specs.Table.{domains}
use Rattle.machine.specs.Check.{Accepted}
use Rattle.machine.specs.Call.{Call, caller_of, split}
use Rattle.machine.specs.Run as machine
use Rattle.machine.specs.Influence.{reaches, influences}
use Rattle.machine.specs.DomainSet.{from_group}
use Rattle.machine.specs.Purge.{view}
use Rattle.reachability.specs.Closure.{closed}
use Rattle.reachability.specs.Chain.{Chain, link_words, among}
use Rattle.isolation_theory.specs.PromisedRun.{PromisedRun}

-- two domains are joined in a table when either has a right on the other
unfoldable pub joined : List ℕ → ℕ → ℕ → Bool
joined t u v = reaches t u v || reaches t v u

-- the connected component of the domain d in a table (document 02: its group), as bits: d alone, closed over the joins
unfoldable pub component : List ℕ → ℕ → ℕ
component t d = closed (link_words (domains t) (joined t)) (2 ^ d)

-- v is connected with d: there is a chain of joins between them, of any length
abbrev pub Connected : List ℕ → ℕ → ℕ → Type 0
Connected t d v = Chain (among (domains t) (joined t)) d v

-- A component is exactly what is connected with its domain, in arbitrary words.
abbrev pub EveryComponent : Type 0
EveryComponent = (t : List ℕ) (d v : ℕ) → (has_bit (component t d) v ≡ true) ↔ Connected t d v

-- "Call what hangs together a group" (document 02 (j)): whatever is in the component of a domain has the same component, in
-- arbitrary words.
abbrev pub EveryComponentShared : Type 0
EveryComponentShared = (t : List ℕ) (d v : ℕ) → has_bit (component t d) v ≡ true → component t v ≡ component t d

-- Components stay: at the end no domain influences one outside the component that it had in the table t.
abbrev pub ComponentsStay : List ℕ → List ℕ → Type 0
ComponentsStay t end =
    (u v : ℕ) → u < domains t → v < domains t → influences end u v ≡ true → has_bit (component t u) v ≡ true

-- Components only come apart: what is connected with a domain at the end was connected with it in the table t.
abbrev pub ComponentsWithin : List ℕ → List ℕ → Type 0
ComponentsWithin t end =
    (d v : ℕ) → d < domains t → has_bit (component end d) v ≡ true → has_bit (component t d) v ≡ true

-- the calls whose caller is in a set, given as bits; a stray has no caller
unfoldable pub calls_from : ℕ → List Call → List Call
calls_from set [] = []
calls_from set (c ∷ cs) =
    let rest = calls_from set cs in
    cond (from_group (has_bit set) (caller_of c)) (c ∷ rest) rest

-- the calls kept for d: those from its component in the table t
unfoldable pub component_calls : List ℕ → List Call → ℕ → List Call
component_calls t cs d = calls_from (component t d) cs

-- Noninterference by component: for every domain d, what d sees of the run is what it sees of the machine fed the calls from its
-- component alone, from the same table.
abbrev pub ComponentNoninterference : List ℕ → List Call → List ℕ → List ℕ → Type 0
ComponentNoninterference t cs answers end =
    (d : ℕ)
    → d < domains t
    → view d cs answers end
    ≡ view d (component_calls t cs d) (machine.answers t (component_calls t cs d)) (machine.run t (component_calls t cs d))

-- ---- of the machine: any calls, however many, run from an accepted table. The words rest may follow the answers

abbrev pub EveryRunComponentsStay : Type 0
EveryRunComponentsStay = (t : List ℕ) (cs : List Call) → Accepted t → ComponentsStay t (machine.run t cs)

abbrev pub EveryRunComponentsWithin : Type 0
EveryRunComponentsWithin = (t : List ℕ) (cs : List Call) → Accepted t → ComponentsWithin t (machine.run t cs)

abbrev pub EveryRunComponentNoninterference : Type 0
EveryRunComponentNoninterference =
    (t : List ℕ) (cs : List Call) (rest : List ℕ)
    → Accepted t
    → ComponentNoninterference t cs (machine.answers t cs ++ rest) (machine.run t cs)

-- ---- of the words that the kernel left, for any list that runs

abbrev pub EveryPromisedRunComponentsStay : Type 0
EveryPromisedRunComponentsStay = (t ws : List ℕ) (p : PromisedRun t ws) → ComponentsStay t p.end

abbrev pub EveryPromisedRunComponentsWithin : Type 0
EveryPromisedRunComponentsWithin = (t ws : List ℕ) (p : PromisedRun t ws) → ComponentsWithin t p.end

abbrev pub EveryPromisedRunComponentNoninterference : Type 0
EveryPromisedRunComponentNoninterference =
    (t ws : List ℕ) (p : PromisedRun t ws) → ComponentNoninterference t (split ws) p.answers p.end

-- ---- a component holds domains alone, so that a call of an unknown caller is purged whatever the table

abbrev pub EveryComponentOfDomains : Type 0
EveryComponentOfDomains = (t : List ℕ) (d u : ℕ) → d < domains t → has_bit (component t d) u ≡ true → u < domains t
