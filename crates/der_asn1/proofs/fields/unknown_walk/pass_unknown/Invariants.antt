use Rattle.std.proofs.Common.{◌≡◌, ◌-◌, true}
use Rattle.der_asn1.proofs.UnknownWalkLemmas.{IsPassing, IsWholeUnknown}
use Rattle.der_asn1.proofs.fields.unknown_walk.pass_unknown.Given as goal

abbrev pub invariant-unknown : goal.invariant-unknown
invariant-unknown g l = IsPassing g.K.KnownTags.known g.T.Item.item.valid g.T.Item.item.octets (g.R.Reader.state l.fn.reader) (g.R.Reader.state l.reader)
    × (g.R.Reader.reliable ≡ true → IsWholeUnknown g.K.KnownTags.known g.T.Error.From.from_gives g.T.Decode.decode_answers (g.R.Reader.state l.fn.reader) (g.R.Reader.state l.reader))

abbrev pub decreases-unknown : goal.decreases-unknown
decreases-unknown g l = (g.R.Reader.state l.reader).end - (g.R.Reader.state l.reader).position
