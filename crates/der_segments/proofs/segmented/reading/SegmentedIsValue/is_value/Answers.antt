use Rattle.std.proofs.Common.{arith}
use Rattle.der_segments.proofs.SegmentedLemmas.{octets_counted}
use Rattle.der_segments.proofs.segmented.reading.SegmentedIsValue.is_value.Goals as goal

pub returns : goal.returns
returns c = omega (arith, octets_counted c.args.self.now.formed)
