use Rattle.std.proofs.Common.{length, ◌-◌, ◌≡◌, ◌≤◌, drop}
use Rattle.x509_names.specs.PreparedText.{spaced, squeezed}
use Rattle.x509_names.proofs.forms.text.after_spaces.Given as goal

abbrev pub invariant-loop-at : goal.invariant-loop-at
invariant-loop-at l =
    (l.from ≤ l.at) × (l.at ≤ length l.octets)
    × (spaced (squeezed (drop l.from l.octets)) ≡ spaced (squeezed (drop l.at l.octets)))

abbrev pub decreases-loop-at : goal.decreases-loop-at
decreases-loop-at l = length l.octets - l.at
