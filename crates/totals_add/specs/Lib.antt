-- What the contracts of `totals_add` cite: totals in 64 bits, and what adding a list to them leaves. Also the claim that adding
-- list after list gives the totals of all.
pub mod Balance
pub mod Added
pub mod Counts
pub mod Tallied
