use Rattle.std.proofs.Common.{◌≤◌, length, take}
use Rattle.x509_path.proofs.PolicyCountLemmas.{AreFew}
use Rattle.x509_path.specs.PolicyNotes.{AreNotes}
use Rattle.x509_path.proofs.reading.read_policies.Given as goal

abbrev pub invariant-loop-at : goal.invariant-loop-at
invariant-loop-at l =
    (l.last.policies_to ≤ length l.policies) × (l.last.mappings_to ≤ length l.mappings)
    × AreNotes (take l.last.policies_to l.policies) (take l.last.mappings_to l.mappings) (take l.at l.path) (take l.at l.notes)
    × AreFew (take l.at l.path) l.last.policies_to l.last.mappings_to
