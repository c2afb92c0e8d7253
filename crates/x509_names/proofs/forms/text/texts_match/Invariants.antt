use Rattle.std.proofs.Common.{◌≡◌, ◌↔◌, ◌≤◌, ◌-◌, length, drop}
use Rattle.x509_names.specs.PreparedText.{squeezed, TextsMatch}
use Rattle.x509_names.proofs.forms.text.texts_match.Given as goal

abbrev pub invariant-loop-octet : goal.invariant-loop-octet
invariant-loop-octet l =
    (l.at ≤ length l.first) × (l.place ≤ length l.second)
    × (TextsMatch l.first l.second ↔ (squeezed (drop l.at l.first) ≡ squeezed (drop l.place l.second)))

abbrev pub decreases-loop-octet : goal.decreases-loop-octet
decreases-loop-octet l = length l.first - l.at
