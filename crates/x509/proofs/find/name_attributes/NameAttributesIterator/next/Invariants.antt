use Rattle.std.proofs.Common.{length}
use Rattle.der.specs.Prelude.{rest_of, slice_state}
use Rattle.x509.specs.Names.{HasLeft}
use Rattle.x509.specs.contracts.asn1.attribute_type_and_value.AttributeTypeAndValueItem.TheImpl as attribute
use Rattle.x509.specs.contracts.asn1.relative_distinguished_name.RelativeDistinguishedNameItem.TheImpl as level
use Rattle.x509.proofs.NameWalkLemmas.{IsMoving}
use Rattle.x509.proofs.find.name_attributes.NameAttributesIterator.next.Given as goal

abbrev pub invariant-levels : goal.invariant-levels
invariant-levels l =
    IsMoving (HasLeft attribute.ghosts.item.valid attribute.ghosts.item.octets level.ghosts.item.valid level.ghosts.item.octets) (rest_of (slice_state l.initial.self.level.items.reader)) (rest_of (slice_state l.initial.self.levels.items.reader))
    (rest_of (slice_state l.self.level.items.reader)) (rest_of (slice_state l.self.levels.items.reader))

abbrev pub decreases-levels : goal.decreases-levels
decreases-levels l = length (rest_of (slice_state l.self.levels.items.reader))
