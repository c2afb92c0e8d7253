use Rattle.x509.specs.contracts.asn1.attribute_type_and_value.AttributeTypeAndValueItem.TheImpl.{ghosts}
use Rattle.x509.proofs.NameLemmas.{IsFinding}
use Rattle.x509.proofs.asn1.name.Name.get.Given as goal

abbrev pub invariant-levels : goal.invariant-levels
invariant-levels l = IsFinding ghosts.item.valid ghosts.item.octets l.oid.octets.now l.yielded l.found
