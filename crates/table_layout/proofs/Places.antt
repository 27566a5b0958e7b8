-- The laws of places: they fit a machine word, and reading a table by n is reading it by its own count of domains.
-- Assumes nothing.
use mathlib.Core.Path.{◌≡◌, ap, sym, ◌∙◌}
use mathlib.Core.List.{List}
use Prim.Native.Nat.{ℕ, ◌+◌, ◌*◌, ◌%◌, ◌<◌, ◌≤◌, ◌^◌}
use native.Mathlib.Nat.{mul-le-mul, mod-eq_of_lt}
use native.Mathlib.Omega.{arith}
use lib.ListN.{get_or, drop}
use lib.Seq.{get_or-take, get_or-drop}
use Rattle.machine.specs.Word.{payload}
use Rattle.machine.specs.Table as table
use Rattle.machine.specs.Table.{rights_at, endpoint_at}

-- a row's place, for every holder and count of domains
pub row_fits : (h n : ℕ) → h < 2 ^ 32 → n < 2 ^ 32 → h * n ≤ 4294967295 * 4294967295
row_fits h n ph pn =
    let qh : h ≤ 4294967295 = omega arith in
    let qn : n ≤ 4294967295 = omega arith in
    mul-le-mul qh qn

-- the square of eight bits
pub square_small : (n : ℕ) → n % 256 * (n % 256) ≤ 65025
square_small n =
    let few : n % 256 ≤ 255 = omega arith in
    mul-le-mul few few

module _ (t : List ℕ) (n : ℕ) (e : n ≡ table.domains t) where
  -- word 0 has eight bits for n
  pub few : n < 256
  unfolding table.domains
  few = omega (arith, e)

  pub eight-bits : n % 256 ≡ n
  eight-bits = mod-eq_of_lt few

  pub rights-read : (h g : ℕ) → payload (get_or t (rights_at n h g) 0) ≡ table.rights t h g
  unfolding table.rights table.rights_word
  rights-read h g = ap (λ (k : ℕ). payload (get_or t (rights_at k h g) 0)) e

  pub endpoint-read : (i j : ℕ) → j < 12 → get_or t (endpoint_at (n % 256) i + j) 0 ≡ get_or (table.endpoint t i) j 0
  unfolding table.endpoint
  endpoint-read i j l =
      ap (λ (k : ℕ). get_or t (endpoint_at k i + j) 0) (eight-bits ∙ e)
      ∙ sym (get_or-drop (endpoint_at (table.domains t) i) t j 0)
      ∙ sym (get_or-take 12 (drop (endpoint_at (table.domains t) i) t) j 0 l)
