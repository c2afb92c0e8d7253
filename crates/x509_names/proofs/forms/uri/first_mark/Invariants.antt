use Rattle.std.proofs.Common.{◌≡◌, ℕ, ◌<◌, false, slice_index}
use Rattle.x509_names.specs.Uris.{is_mark}
use Rattle.x509_names.proofs.forms.uri.first_mark.Given as goal

abbrev pub invariant-loop-at : goal.invariant-loop-at
invariant-loop-at l = (k : ℕ) → k < l.at → is_mark l.mark (slice_index l.octets k) ≡ false
