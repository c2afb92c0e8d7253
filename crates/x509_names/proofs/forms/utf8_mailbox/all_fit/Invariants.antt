use Rattle.std.proofs.Common.{ℕ, ◌<◌}
use Rattle.x509_names.specs.Comparable.{FitsUtf8Local}
use Rattle.x509_names.proofs.forms.utf8_mailbox.all_fit.Given as goal

abbrev pub invariant-loop-at : goal.invariant-loop-at
invariant-loop-at l = (k : ℕ) → k < l.at → FitsUtf8Local l.octets k
