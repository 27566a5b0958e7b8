-- For callers: the holders are kept by noting the effect of each call. Assumes nothing.
pub use Rattle.holders_theory.proofs.Kept.{holders-kept}
