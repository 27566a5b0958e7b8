-- What is proved of what linerun prints, as definitions.
pub mod LineLaws
pub mod Chunks
pub mod ReportLaws
pub mod SpaceLaws
pub mod CursorLaws
pub mod Refusals
pub mod Examples
