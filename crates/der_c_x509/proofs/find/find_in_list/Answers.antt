use Rattle.std.proofs.Common.{Ok, Err, None, refl, ap, ◌∙◌}
use Rattle.x509.specs.Find.{WholeRead}
use Rattle.der_c_core.specs.ErrorCode.{error_code}
use Rattle.der_c_x509.proofs.FindLemmas.{finds_in_list}
use Rattle.der_c_x509.proofs.find.find_in_list.Goals as goal

pub returns-in-Absent : goal.returns-in-Absent
returns-in-Absent g c =
    finds_in_list (WholeRead g.K.Value.FixedTag.tag_is g.K.Value.ReadValue.valid g.K.Value.WrittenValue.contents g.K.Value.ReadValue.allocates g.K.Value.DecodeValue.decode_value_answers)
    c.identifier-oid.ensures c.get.result (Ok None) c.get.ensures (rw c.in-Absent.is refl)

pub returns-in-Once : goal.returns-in-Once
returns-in-Once g c =
    finds_in_list (WholeRead g.K.Value.FixedTag.tag_is g.K.Value.ReadValue.valid g.K.Value.WrittenValue.contents g.K.Value.ReadValue.allocates g.K.Value.DecodeValue.decode_value_answers)
    c.identifier-oid.ensures c.get.result c.read_contents.result c.get.ensures (rw c.in-Once.is c.read_contents.ensures)

pub returns-in-Several : goal.returns-in-Several
returns-in-Several g c =
    finds_in_list (WholeRead g.K.Value.FixedTag.tag_is g.K.Value.ReadValue.valid g.K.Value.WrittenValue.contents g.K.Value.ReadValue.allocates g.K.Value.DecodeValue.decode_value_answers)
    c.identifier-oid.ensures c.get.result (Err c.c_error.result) c.get.ensures
    (rw c.in-Several.is (ap Err (c.c_error.ensures ∙ ap error_code c.to_error.ensures)))
