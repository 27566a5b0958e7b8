-- What is proved of the run on a working layout besides its functions.
pub mod WholeState
pub mod RunInvariant
pub mod LoadStore
