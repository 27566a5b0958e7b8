-- What is proved of the beginning, handing in and turns.
pub mod Codes
pub mod Serves
pub mod Outcomes
pub mod Examples
pub mod Claims
pub mod OneEvent
pub mod WordHistory
pub mod Service
