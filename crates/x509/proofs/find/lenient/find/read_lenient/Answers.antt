use Rattle.std.proofs.Common.{Ok, Err, subst}
use Rattle.x509.specs.Lenient.{BerRead, IsDerOf, SaysDerOf}
use Rattle.x509.proofs.find.lenient.find.read_lenient.Goals as goal

pub returns-in-Ok : goal.returns-in-Ok
returns-in-Ok g c = (
  subst (λ o. BerRead g.K.Lenient.FixedTag.tag_is g.K.Lenient.ReadValue.takes g.K.Lenient.ReadValue.value_levels g.K.Lenient.ReadValue.allocates g.K.Lenient.DecodeValue.decode_value_answers o (Ok c.in-Ok.value)) c.octets-octets.ensures.value
      (record { ok = c.in-Ok.ensures.ok; complete = c.in-Ok.ensures.complete; exact = c.in-Ok.ensures.exact }),
  record {
    critical = c.is_true-critical.ensures;
    is_der = subst (λ o. SaysDerOf g.K.Value.ReadValue.allocates (IsDerOf g.K.Value.FixedTag.tag_is g.K.Value.ReadValue.valid g.K.Value.WrittenValue.contents) o c.is_der_of-is_der.result) c.octets-octets.ensures.value c.is_der_of-is_der.ensures;
  },
)

pub returns-in-Err : goal.returns-in-Err
returns-in-Err g c =
    subst (λ o. BerRead g.K.Lenient.FixedTag.tag_is g.K.Lenient.ReadValue.takes g.K.Lenient.ReadValue.value_levels g.K.Lenient.ReadValue.allocates g.K.Lenient.DecodeValue.decode_value_answers o (Err c.in-Err.error)) c.octets-octets.ensures.value
    (record { ok = c.in-Err.ensures.ok; complete = c.in-Err.ensures.complete; exact = c.in-Err.ensures.exact })
