-- A list of calls that puts every domain that could be a source into the source sets, of all domains at once: first the grants
-- that give every potential right, then rounds in which each domain that acts asks for its rights. An ask alters nothing, and
-- its caller is a source where it has a right on one after it. So each round is one link of every chain.
use Rattle.std.specs.Prelude.{ℕ, zero, suc, ◌*◌, List, [], ◌++◌, map}
use Rattle.machine.specs.Below.{numbers_below, has_bit}
use Rattle.machine.specs.Word.{word}
use Rattle.machine.specs.Table.{domains}
use Rattle.potential_theory.specs.Lists.{potential_list}

-- the word by which u asks for its rights
unfoldable pub ask_word : ℕ → ℕ
ask_word u = word 5 (u * 4194304)

-- one round: each of the n domains that acts asks, lowest index first
unfoldable pub ask_round : ℕ → ℕ → List ℕ
ask_round n s = map ask_word (numbers_below n (has_bit s))

-- k rounds
unfoldable pub ask_rounds : ℕ → ℕ → ℕ → List ℕ
ask_rounds zero n s = []
ask_rounds (suc k) n s = ask_round n s ++ ask_rounds k n s

-- the list: the grants, and as many rounds as there are domains
unfoldable pub influence_list : List ℕ → ℕ → List ℕ
influence_list t s = potential_list t s ++ ask_rounds (domains t) (domains t) s
