use Rattle.der_segments.proofs.SegmentedLemmas.{contents_contain}
use Rattle.der_segments.proofs.segmented.Segmented.octets.Goals as goal

pub returns-clause-contains : goal.returns-clause-contains
returns-clause-contains c = contents_contain c.args.self.now.formed
