-- The joins of a table as they are read, and the component by their words. Assumes nothing.
use mathlib.Core.Path.{◌≡◌}
use mathlib.Core.Bool.{◌||◌}
use mathlib.Core.List.{List}
use Prim.Native.Nat.{ℕ, ◌^◌}
use lib.ListN.{get_or, take}
use Rattle.machine.specs.Word.{payload}
use Rattle.machine.specs.Right.{has_any}
use Rattle.machine.specs.Table.{domains, rights_at, rights_word, rights}
use Rattle.machine.specs.Influence.{reaches}
use Rattle.reachability.specs.Closure.{closed}
use Rattle.reachability.specs.Chain.{link_words}
use Rattle.isolation_theory.specs.Component.{joined, component}

-- two rights sets as they are read from a table of n domains
pub joined-read :
    (t : List ℕ) (n u v held back : ℕ)
    → n ≡ domains t
    → held ≡ payload (get_or t (rights_at n u v) 0)
    → back ≡ payload (get_or t (rights_at n v u) 0)
    → (has_any held || has_any back) ≡ joined t u v
unfolding joined reaches rights rights_word
joined-read t n u v held back e p q = rw (p, q, e)

-- the component is the closure of one domain over the first n of those words
pub component-read :
    (t ws : List ℕ) (n d alone : ℕ)
    → n ≡ domains t
    → take n ws ≡ link_words n (joined t)
    → alone ≡ 2 ^ d
    → closed (take n ws) alone ≡ component t d
unfolding component
component-read t ws n d alone e front one = rw (front, one, e)
