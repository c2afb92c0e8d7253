use Rattle.std.proofs.Common.{◌≡◌, ◌⊎◌, ℕ, ◌<◌, true, slice_index}
use Rattle.x509_names.specs.UriSyntax.{IsEscape, allows_escapes, is_of}
use Rattle.x509_names.proofs.forms.uri_syntax.are_of.Given as goal

abbrev pub invariant-loop-at : goal.invariant-loop-at
invariant-loop-at l =
    (k : ℕ) → k < l.at → (is_of l.part (slice_index l.octets k) ≡ true)
    ⊎ ((allows_escapes l.part ≡ true) × IsEscape l.octets k)
