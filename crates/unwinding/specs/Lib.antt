-- The theory of unwinding: sets of domains, machines, their conditions, and the theorems.
pub mod DomainSet
pub mod Unwinding
