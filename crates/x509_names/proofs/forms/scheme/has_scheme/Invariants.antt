use Rattle.std.proofs.Common.{◌≡◌, ℕ, ◌<◌, true, slice_index}
use Rattle.x509_names.specs.UriSyntax.{fits_scheme}
use Rattle.x509_names.proofs.forms.scheme.has_scheme.Given as goal

abbrev pub invariant-loop-at : goal.invariant-loop-at
invariant-loop-at l = (k : ℕ) → k < l.at → fits_scheme k (slice_index l.octets k) ≡ true
