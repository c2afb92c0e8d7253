use Rattle.std.proofs.Common.{sym}
use Rattle.der_segments.proofs.SegmentedLemmas.{octets_counted}
use Rattle.der_segments.proofs.segmented.Segmented.joined_len.Goals as goal

pub returns : goal.returns
returns c = sym (octets_counted c.args.self.now.formed)
