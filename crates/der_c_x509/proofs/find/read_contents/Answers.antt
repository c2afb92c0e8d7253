use Rattle.std.proofs.Common.{Ok, Err, refl, subst}
use Rattle.x509.specs.Find.{WholeRead}
use Rattle.der_c_core.specs.Located.{LocatesIn}
use Rattle.der_c_x509.specs.FindCalls.{ReadsContents}
use Rattle.der_c_x509.proofs.find.read_contents.Goals as goal

pub returns-in-Ok : goal.returns-in-Ok
returns-in-Ok g c =
    ReadsContents.read _
    (subst (λ o. WholeRead g.K.Value.FixedTag.tag_is g.K.Value.ReadValue.valid g.K.Value.WrittenValue.contents g.K.Value.ReadValue.allocates g.K.Value.DecodeValue.decode_value_answers o (Ok c.in-Ok.value)) c.octets-octets.ensures.value
    (record { ok = c.in-Ok.ensures.ok; complete = c.in-Ok.ensures.complete; exact = c.in-Ok.ensures.exact }))
    c.is_true-critical.ensures refl

pub returns-in-Err : goal.returns-in-Err
returns-in-Err g c =
    ReadsContents.refused c.in-Err.error _
    (subst (λ o. WholeRead g.K.Value.FixedTag.tag_is g.K.Value.ReadValue.valid g.K.Value.WrittenValue.contents g.K.Value.ReadValue.allocates g.K.Value.DecodeValue.decode_value_answers o (Err c.in-Err.error)) c.octets-octets.ensures.value
    (record { ok = c.in-Err.ensures.ok; complete = c.in-Err.ensures.complete; exact = c.in-Err.ensures.exact }))
    (subst (λ o. LocatesIn o c.in-Err.error c.located_in.result) c.octets-octets.ensures.value c.located_in.ensures) refl
