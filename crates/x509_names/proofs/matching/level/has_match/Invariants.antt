use Rattle.std.proofs.Common.{◌↔◌}
use Rattle.der.specs.Prelude.{rest_of, slice_state}
use Rattle.x509.specs.CertificateLists.{level_octets}
use Rattle.x509_names.specs.NameMatching.{HasMatch}
use Rattle.x509_names.proofs.matching.level.has_match.Given as goal

abbrev pub invariant-loop-other : goal.invariant-loop-other
invariant-loop-other l =
    (goal.iterator-loop-other).can_next l.other-iterator ×
    (goal.iterator-loop-other).is_finite l.other-iterator
    × (HasMatch l.matching (level_octets l.level) l.attribute ↔ HasMatch l.matching (rest_of (slice_state l.other-iterator.items.reader)) l.attribute)
