-- What is proved of what linetotals prints, as definitions: laws that the functions' proofs cite.
pub mod LineLaws
pub mod ReportLaws
pub mod SheetLaws
pub mod InputLaws
pub mod ListStep
pub mod Reading
pub mod Loop
