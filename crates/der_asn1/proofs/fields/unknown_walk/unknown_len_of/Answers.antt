use Rattle.std.proofs.Common.{sym, subst}
use Rattle.der_asn1.specs.UnknownWalk.{IsUnknownFront}
use Rattle.der_asn1.proofs.fields.unknown_walk.unknown_len_of.Goals as goal

pub returns-then-not-is_der-clause-complete : goal.returns-then-not-is_der-clause-complete
returns-then-not-is_der-clause-complete g c front reliable f = c.unknown_len_in.ensures.complete front f

pub returns-clause-complete : goal.returns-clause-complete
returns-clause-complete g c front reliable f =
    c.unknown_len.ensures.complete front reliable (subst (λ x. IsUnknownFront g.K.KnownTags.known g.T.Item.item.valid g.T.Item.item.octets x front) (sym c.requires.all) f)
