-- What is proved of the step from stage to stage, as definitions: laws that the functions' proofs cite.
pub mod StepLaws
