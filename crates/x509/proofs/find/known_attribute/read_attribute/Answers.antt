use Rattle.std.proofs.Common.{Ok, Err, subst}
use Rattle.x509.specs.Find.{WholeRead}
use Rattle.x509.proofs.find.known_attribute.read_attribute.Goals as goal

pub returns-in-Ok : goal.returns-in-Ok
returns-in-Ok g c =
    subst (λ o. WholeRead g.K.Value.FixedTag.tag_is g.K.Value.ReadValue.valid g.K.Value.WrittenValue.contents g.K.Value.ReadValue.allocates g.K.Value.DecodeValue.decode_value_answers o (Ok c.in-Ok.value)) c.octets.ensures.value
    (record { ok = c.in-Ok.ensures.ok; complete = c.in-Ok.ensures.complete; exact = c.in-Ok.ensures.exact })

pub returns-in-Err : goal.returns-in-Err
returns-in-Err g c =
    subst (λ o. WholeRead g.K.Value.FixedTag.tag_is g.K.Value.ReadValue.valid g.K.Value.WrittenValue.contents g.K.Value.ReadValue.allocates g.K.Value.DecodeValue.decode_value_answers o (Err c.in-Err.error)) c.octets.ensures.value
    (record { ok = c.in-Err.ensures.ok; complete = c.in-Err.ensures.complete; exact = c.in-Err.ensures.exact })
