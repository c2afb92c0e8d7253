use Rattle.std.proofs.Common.{refl, sym, subst}
use Rattle.der_asn1.proofs.SequenceOfLemmas.{starts_before}
use Rattle.der_asn1.specs.UnknownWalk.{IsUnknownFront}
use Rattle.der.specs.SliceReader.{slice_state}
use Rattle.der_asn1.proofs.fields.unknown_walk.unknown_len_in.Goals as goal

pub returns-clause-complete : goal.returns-clause-complete
returns-clause-complete g c front f =
    c.unknown_len.ensures.complete front refl (subst (λ x. IsUnknownFront g.K.KnownTags.known g.T.Item.item.valid g.T.Item.item.octets x front) (sym (starts_before c.args.octets.now (slice_state c.in_ok-reader.reader) c.in_ok-reader.ensures.ok)) f)
