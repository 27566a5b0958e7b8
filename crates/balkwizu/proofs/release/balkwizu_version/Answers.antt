-- `release::balkwizu_version` meets its contract: its three constants are the definition's. Assumes nothing.
use mathlib.Core.Path.{refl}
use Rattle.balkwizu.specs.Version.{major, minor, patch, version}
use Rattle.balkwizu.proofs.release.balkwizu_version.Goals as goal

pub returns : goal.returns
unfolding version major minor patch
returns c = refl
