-- The number of this release. The file VERSION has the same three numbers, and the gate checks that the two are the same.
use Rattle.std.specs.Prelude.{ℕ, ◌+◌, ◌*◌}

unfoldable pub major : ℕ
major = 3

unfoldable pub minor : ℕ
minor = 0

unfoldable pub patch : ℕ
patch = 0

-- the three in one word, each but the first in eight bits: a later release is a larger number
unfoldable pub version : ℕ
version = 65536 * major + (256 * minor + patch)
