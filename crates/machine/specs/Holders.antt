-- The holders: who has any right on whom, as one bitmap a domain beside a table (document 02 (h); document 02: the panel's
-- words).
use Rattle.std.specs.Prelude.{ℕ, List}
use Rattle.machine.specs.Below.{words_below, bits_below}
use Rattle.machine.specs.Table.{domains}
use Rattle.machine.specs.Influence.{reaches}

-- the holders of a table, computed from it alone: bit h of word g is set where domain h has any right on domain g
unfoldable pub holders_of : List ℕ → List ℕ
holders_of t = words_below (domains t) (λ g. bits_below (domains t) (λ h. reaches t h g))
