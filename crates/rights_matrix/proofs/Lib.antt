-- Laws of rows, and of lists that are filled part by part.
pub mod Filling
pub mod Parts
pub mod RowWords
pub mod LoadLoop
pub mod StoreLoop
pub mod Rights
