use Rattle.std.proofs.Common.{◌≡◌, ℕ, ◌<◌, true, slice_index}
use Rattle.x509_names.specs.PreparedText.{is_plain_character}
use Rattle.x509_names.proofs.forms.text.is_plain_text.Given as goal

abbrev pub invariant-loop-at : goal.invariant-loop-at
invariant-loop-at l = (k : ℕ) → k < l.at → is_plain_character (slice_index l.octets k) ≡ true
