-- For callers: when a ring represents a queue (document 02 (l)).
pub use Rattle.ring_theory.specs.Claims.{RepresentsQueue}
