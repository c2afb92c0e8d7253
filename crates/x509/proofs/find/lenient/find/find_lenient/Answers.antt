use Rattle.std.proofs.Common.{◌≡◌, refl, sym, subst, Ok, Err, None}
use Rattle.x509.specs.declared.find.error.FindError.TheVariants.{Repeated}
use Rattle.x509.specs.declared.find.occurrence.Occurrence.TheVariants.{Absent, Once, Several}
use Rattle.x509.specs.Lenient.{BerRead, IsDerOf, SaysDerOf}
use Rattle.x509.proofs.LenientLemmas.{OccurrenceAnswer, finds_lenient}
use Rattle.x509.proofs.find.lenient.find.find_lenient.Goals as goal

pub returns-in-Absent : goal.returns-in-Absent
returns-in-Absent g c =
    finds_lenient (BerRead g.K.Lenient.FixedTag.tag_is g.K.Lenient.ReadValue.takes g.K.Lenient.ReadValue.value_levels g.K.Lenient.ReadValue.allocates g.K.Lenient.DecodeValue.decode_value_answers)
    (SaysDerOf g.K.Value.ReadValue.allocates (IsDerOf g.K.Value.FixedTag.tag_is g.K.Value.ReadValue.valid g.K.Value.WrittenValue.contents))
    c.identifier-oid.ensures c.get.result (Ok None) c.get.ensures (rw c.in-Absent.is refl)

pub returns-in-Once : goal.returns-in-Once
returns-in-Once g c =
    finds_lenient (BerRead g.K.Lenient.FixedTag.tag_is g.K.Lenient.ReadValue.takes g.K.Lenient.ReadValue.value_levels g.K.Lenient.ReadValue.allocates g.K.Lenient.DecodeValue.decode_value_answers)
    (SaysDerOf g.K.Value.ReadValue.allocates (IsDerOf g.K.Value.FixedTag.tag_is g.K.Value.ReadValue.valid g.K.Value.WrittenValue.contents))
    c.identifier-oid.ensures c.get.result c.read_lenient.result c.get.ensures (rw c.in-Once.is c.read_lenient.ensures)

pub returns-in-Several : goal.returns-in-Several
returns-in-Several g c =
    finds_lenient (BerRead g.K.Lenient.FixedTag.tag_is g.K.Lenient.ReadValue.takes g.K.Lenient.ReadValue.value_levels g.K.Lenient.ReadValue.allocates g.K.Lenient.DecodeValue.decode_value_answers)
    (SaysDerOf g.K.Value.ReadValue.allocates (IsDerOf g.K.Value.FixedTag.tag_is g.K.Value.ReadValue.valid g.K.Value.WrittenValue.contents))
    c.identifier-oid.ensures c.get.result (Err Repeated) c.get.ensures (rw c.in-Several.is refl)
