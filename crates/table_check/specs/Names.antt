-- Names that differ. The machine tests it endpoint by endpoint (specs/Check of the machine: name_new), here it is tested of a
-- list.
use Rattle.std.specs.Prelude.{ℕ, ◌*◌, ◌/◌, ◌%◌, ◌<◌, ◌≡◌, Bool, not, List, length, get_or, eqb}
use Rattle.machine.specs.Below.{all_below}

-- no name before the one at e is the same
unfoldable pub new_at : List ℕ → ℕ → Bool
new_at names e = all_below e (λ f. not (eqb (get_or names f 0) (get_or names e 0)))

-- no two names are the same
unfoldable pub all_different : List ℕ → Bool
all_different names = all_below (length names) (new_at names)

-- the index of a name's flag among 512: any function of the name works
abbrev pub flag_of : ℕ → ℕ
flag_of name = name * 2654435761 / 8388608 % 512

-- the flags of the names before the one at e are set
pub record Flagged (names flags : List ℕ) (e : ℕ) : Type 0 where
  pub room : length flags ≡ 512
  pub set : (f : ℕ) → f < e → get_or flags (flag_of (get_or names f 0)) 0 ≡ 1
