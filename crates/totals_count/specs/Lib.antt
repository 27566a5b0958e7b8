-- What the contracts of `totals_count` cite besides the machine.
pub mod Counted
