-- For callers: a ring that represents a queue simulates it. Assumes nothing.
pub use Rattle.ring_theory.proofs.Simulation.{loaded-ring-represents, queues-simulate, store-is-queue}
