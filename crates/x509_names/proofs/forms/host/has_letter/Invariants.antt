use Rattle.std.proofs.Common.{◌≡◌, ℕ, ◌<◌, false, slice_index}
use Rattle.x509_names.specs.Hosts.{is_letter}
use Rattle.x509_names.proofs.forms.host.has_letter.Given as goal

abbrev pub invariant-loop-at : goal.invariant-loop-at
invariant-loop-at l = (k : ℕ) → k < l.at → is_letter (slice_index l.octets k) ≡ false
