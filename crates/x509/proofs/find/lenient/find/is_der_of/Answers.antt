use Rattle.x509.proofs.LenientLemmas.{says_der}
use Rattle.x509.proofs.find.lenient.find.is_der_of.Goals as goal

pub returns : goal.returns
returns g c =
    says_der _ g.T.FixedTag.tag_is g.T.ReadValue.valid g.T.WrittenValue.contents g.T.ReadValue.allocates c.args.octets.now c.lawful_from_der.result c.is_ok.result
    c.lawful_from_der.ensures.ok c.lawful_from_der.ensures.complete c.is_ok.ensures.value
