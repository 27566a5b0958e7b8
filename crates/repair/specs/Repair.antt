-- For callers: what is promised of a repair (document 02 (k)).
pub use Rattle.repair_theory.specs.Repair.{RepairPromise}
