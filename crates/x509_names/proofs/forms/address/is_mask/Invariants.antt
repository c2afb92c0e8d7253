use Rattle.std.proofs.Common.{ℕ, ◌<◌}
use Rattle.x509_names.specs.Addresses.{FitsMask}
use Rattle.x509_names.proofs.forms.address.is_mask.Given as goal

abbrev pub invariant-loop-at : goal.invariant-loop-at
invariant-loop-at l = (k : ℕ) → k < l.at → FitsMask l.mask k
