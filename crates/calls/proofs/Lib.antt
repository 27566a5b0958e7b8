-- What is proved of decoding a call and of splitting a list.
pub mod DecodeLaws
pub mod Decided
pub mod Numbers
pub mod Counted
pub mod SplitAt
