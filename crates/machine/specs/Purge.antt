-- The terms of noninterference (document 01: the striking rule): which domains can have reached d at each call (sources;
-- document 01: the set), which calls are kept (purge), and what d sees at the end (its view).
use Rattle.std.specs.Prelude.{ℕ, Bool, false, cond, ◌&&◌, ◌||◌, List, [], ◌∷◌, ◌++◌, map, get_or, take, drop, eqb, ltb}
use Rattle.std.proofs.Math.Option.{Option, none, some}
use Rattle.machine.specs.Below.{numbers_below}
use Rattle.machine.specs.Table.{domains, endpoints, rights_at, endpoint}
use Rattle.machine.specs.Queue.{owner}
use Rattle.machine.specs.Call.{Call, caller_of}
use Rattle.machine.specs.Machine.{step}
use Rattle.machine.specs.Influence.{reaches}
use Rattle.machine.specs.DomainSet.{caller_in, called_by}

-- u has any right on a member
unfoldable pub reaches_any : List ℕ → ℕ → List ℕ → Bool
reaches_any t u [] = false
reaches_any t u (v ∷ vs) = reaches t u v || reaches_any t u vs

-- the set vs, joined by a call's caller where that is below n and has any right on a member in the table t
unfoldable pub joined_by : List ℕ → Option ℕ → List ℕ → List ℕ
joined_by t none vs = vs
joined_by t (some u) vs = cond (ltb u (domains t) && reaches_any t u vs) (u ∷ vs) vs

-- the source set at the first of the calls cs, which are run from the table t; past the last call it is d alone
unfoldable pub sources : List ℕ → List Call → ℕ → List ℕ
sources t [] d = d ∷ []
sources t (c ∷ cs) d = joined_by t (caller_of c) (sources (step t c) cs d)

-- the calls that are kept: exactly those whose caller is in the source set at that call; the others are purged
unfoldable pub purge : List ℕ → List Call → ℕ → List Call
purge t [] d = []
purge t (c ∷ cs) d =
    let rest = purge (step t c) cs d in
    cond (caller_in (caller_of c) (sources t (c ∷ cs) d)) (c ∷ rest) rest

-- d's answers, out of the answer words of calls, three for each: all three words of each call whose caller is d, in order
unfoldable pub answers_of : ℕ → List Call → List ℕ → List ℕ
answers_of d [] answers = []
answers_of d (c ∷ cs) answers =
    let rest = answers_of d cs (drop 3 answers) in
    cond (called_by d (caller_of c)) (take 3 answers ++ rest) rest

-- d's rights: the n words it holds
unfoldable pub rights_of : ℕ → List ℕ → List ℕ
rights_of d t = take (domains t) (drop (rights_at (domains t) d 0) t)

-- the endpoints that d owns
unfoldable pub owned_by : ℕ → List ℕ → List ℕ
owned_by d t = numbers_below (endpoints t) (λ e. eqb (owner (endpoint t e)) d)

-- d's queues: each endpoint it owns, with its waiting word and all eight message words
unfoldable pub queues_of : ℕ → List ℕ → List (ℕ × List ℕ)
queues_of d t = map (λ e. (e, get_or (endpoint t e) 2 0 ∷ drop 4 (endpoint t e))) (owned_by d t)

-- d's lost counts: each of those endpoints, with its lost word
unfoldable pub lost_of : ℕ → List ℕ → List (ℕ × ℕ)
lost_of d t = map (λ e. (e, get_or (endpoint t e) 3 0)) (owned_by d t)

-- What a domain sees: its answers, its rights, its queues and its lost counts.
pub record View : Type 0 where
  pub answers : List ℕ
  pub rights : List ℕ
  pub queues : List (ℕ × List ℕ)
  pub lost : List (ℕ × ℕ)

-- what d sees of calls that left these answers and the table end
unfoldable pub view : ℕ → List Call → List ℕ → List ℕ → View
view d cs answers end =
    record {
      answers = answers_of d cs answers;
      rights = rights_of d end;
      queues = queues_of d end;
      lost = lost_of d end;
    }
