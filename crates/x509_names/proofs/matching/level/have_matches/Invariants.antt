use Rattle.std.proofs.Common.{◌↔◌}
use Rattle.der.specs.Prelude.{rest_of, slice_state}
use Rattle.x509.specs.CertificateLists.{level_octets}
use Rattle.x509_names.specs.NameMatching.{HaveMatches}
use Rattle.x509_names.proofs.matching.level.have_matches.Given as goal

abbrev pub invariant-loop-attribute : goal.invariant-loop-attribute
invariant-loop-attribute l =
    (goal.iterator-loop-attribute).can_next l.attribute-iterator ×
    (goal.iterator-loop-attribute).is_finite l.attribute-iterator
    × (HaveMatches l.matching (level_octets l.first) (level_octets l.second) ↔ HaveMatches l.matching (rest_of (slice_state l.attribute-iterator.items.reader)) (level_octets l.second))
