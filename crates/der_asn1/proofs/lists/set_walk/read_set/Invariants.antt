use Rattle.std.proofs.Common.{◌≡◌, ◌-◌, true}
use Rattle.der.specs.ReaderState.{rest_of}
use Rattle.der_asn1.proofs.ListAnswerLemmas.{IsWholeSet}
use Rattle.der_asn1.proofs.SetOfLemmas.{IsSetWalk}
use Rattle.der_asn1.proofs.lists.set_walk.read_set.Given as goal

abbrev pub invariant-items : goal.invariant-items
invariant-items g l = IsSetWalk g.T.Item.item.valid g.T.Item.item.octets l.fn.octets l.previous (g.R.Reader.state l.reader)
    × (g.R.Reader.reliable ≡ true → IsWholeSet g.T.Error.From.from_gives g.T.Decode.decode_answers (g.R.Reader.state l.fn.reader) l.previous (g.R.Reader.state l.reader))
    × (l.rest ≡ rest_of (g.R.Reader.state l.reader))

abbrev pub decreases-items : goal.decreases-items
decreases-items g l = (g.R.Reader.state l.reader).end - (g.R.Reader.state l.reader).position
