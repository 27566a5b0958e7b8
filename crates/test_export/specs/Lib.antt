-- What the exported functions for the bench promise.
pub mod Exported
pub mod ExportedQueues
pub mod BothWays
