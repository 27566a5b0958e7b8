-- Those that could influence a domain, the list that makes them its sources, what is claimed of them, and rows that pin them.
pub mod Influence
pub mod Lists
pub mod Claims
pub mod Examples
