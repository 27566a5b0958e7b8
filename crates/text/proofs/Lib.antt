-- What is proved of decimal numbers, labels and written bytes: laws that the proofs here and of the programs cite.
pub mod WriteLaws
pub mod DigitLaws
pub mod DecimalClaim
pub mod LabelLaws
pub mod Printed
