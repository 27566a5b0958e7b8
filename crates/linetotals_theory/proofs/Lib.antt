-- What is proved of what linetotals prints, as definitions.
pub mod SheetLaws
pub mod RunLaws
pub mod InputRead
pub mod InputLaws
pub mod Examples
pub mod MostLists
