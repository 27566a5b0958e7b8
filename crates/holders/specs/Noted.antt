-- For callers: the holders after a change of rights, and after an effect of the machine.
unfoldable pub use Rattle.holders_theory.specs.Noted.{noted, holders_after}
