use Rattle.std.proofs.Common.{ℕ, ◌<◌}
use Rattle.x509_names.specs.HostNames.{FitsHost}
use Rattle.x509_names.proofs.forms.host_name.all_fit.Given as goal

abbrev pub invariant-loop-at : goal.invariant-loop-at
invariant-loop-at l = (k : ℕ) → k < l.at → FitsHost l.octets k
