use Rattle.std.proofs.Common.{◌≡◌, ℕ, ◌<◌, true, slice_index}
use Rattle.x509_names.specs.Hosts.{is_host_octet}
use Rattle.x509_names.proofs.forms.host.are_of_host.Given as goal

abbrev pub invariant-loop-at : goal.invariant-loop-at
invariant-loop-at l = (k : ℕ) → k < l.at → is_host_octet (slice_index l.octets k) ≡ true
