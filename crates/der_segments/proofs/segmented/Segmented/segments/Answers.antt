use Rattle.der_segments.proofs.SegmentedLemmas.{contents_have_pieces, contents_pieces_are, same_left}
use Rattle.der_segments.proofs.segmented.Segmented.segments.Goals as goal

pub new-requires-clause-left : goal.new-requires-clause-left
new-requires-clause-left c = contents_have_pieces c.args.self.now.formed

pub returns-clause-pieces : goal.returns-clause-pieces
returns-clause-pieces c = contents_pieces_are c.args.self.now.formed

pub returns-clause-left : goal.returns-clause-left
returns-clause-left c = same_left c.new.result.left _ c.new.ensures.form c.new.ensures.octets
