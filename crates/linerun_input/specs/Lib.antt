-- What the contracts of `linerun_input` cite: what linerun reads, and how its reading goes on.
pub mod Input
pub mod Stage
