-- What is proved of answers besides the functions.
pub mod Digits
pub mod AnswerWords
pub mod Space
