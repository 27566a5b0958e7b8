-- The rights that one domain holds on another: a set, as a number with a bit for each right (document 01, 'The table').
use Rattle.std.specs.Prelude.{ℕ, ◌-◌, Bool, not, ◌&&◌, eqb, leb}
use Rattle.std.specs.Int.Bits.{bit_and, bit_or}

-- to send to its endpoints
abbrev pub SEND : ℕ
SEND = 1

-- to give away rights on it
abbrev pub GRANT : ℕ
GRANT = 2

-- to clear one's own rights on it
abbrev pub REMOVE : ℕ
REMOVE = 4

-- to take rights on it back, from whoever holds them (document 02 (i))
abbrev pub REVOKE : ℕ
REVOKE = 8

-- the largest set: every right there is
abbrev pub all_rights : ℕ
all_rights = 15

-- a set of rights that a call may name: at least one right, and none that isn't a right
unfoldable pub is_set : ℕ → Bool
is_set r = leb 1 r && leb r all_rights

-- every right of r is in the set s
unfoldable pub holds : ℕ → ℕ → Bool
holds s r = eqb (bit_and s r) r

-- the set s with the rights of r added
unfoldable pub adds : ℕ → ℕ → ℕ
adds s r = bit_or s r

-- the set s without the rights of r
unfoldable pub without : ℕ → ℕ → ℕ
without s r = s - bit_and s r

-- some right is in the set s
unfoldable pub has_any : ℕ → Bool
has_any s = not (eqb s 0)
