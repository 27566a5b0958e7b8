-- What the calls of a list leave (document 01, 'The calls').
use Rattle.std.specs.Prelude.{ℕ, ◌*◌, ◌≡◌, List, ◌++◌, length, drop}
use Rattle.machine.specs.Call.{split}
use Rattle.machine.specs.Run as machine
use Rattle.machine.specs.Holders.{holders_of}

-- the calls of the list ws ran from the table t, k of them, and left the space space', the table end and the holders kept
pub record AllRun (t ws space : List ℕ) (k : ℕ) (space' end kept : List ℕ) : Type 0 where
  pub count : k ≡ length (split ws)
  pub table : end ≡ machine.run t (split ws)
  pub answers : space' ≡ machine.answers t (split ws) ++ drop (3 * length (split ws)) space
  pub holders : kept ≡ holders_of (machine.run t (split ws))
