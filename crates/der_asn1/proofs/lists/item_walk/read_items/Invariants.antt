use Rattle.std.proofs.Common.{◌≡◌, ◌-◌, true}
use Rattle.der.specs.ReaderState.{rest_of}
use Rattle.der_asn1.proofs.ListAnswerLemmas.{IsWholeWalk}
use Rattle.der_asn1.proofs.SequenceOfLemmas.{IsWalking}
use Rattle.der_asn1.proofs.lists.item_walk.read_items.Given as goal

abbrev pub invariant-items : goal.invariant-items
invariant-items g l = IsWalking g.T.Item.item.valid g.T.Item.item.octets (rest_of (g.R.Reader.state l.fn.reader)) (g.R.Reader.state l.reader)
    × (g.R.Reader.reliable ≡ true → IsWholeWalk g.T.Error.From.from_gives g.T.Decode.decode_answers (g.R.Reader.state l.fn.reader) (g.R.Reader.state l.reader))

abbrev pub decreases-items : goal.decreases-items
decreases-items g l = (g.R.Reader.state l.reader).end - (g.R.Reader.state l.reader).position
