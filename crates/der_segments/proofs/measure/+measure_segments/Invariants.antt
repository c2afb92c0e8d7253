use Rattle.std.proofs.Common.{◌-◌}
use Rattle.der.specs.Prelude.{Same}
use Rattle.der_segments.specs.Measured.{Measures}
use Rattle.der_segments.proofs.measure.+measure_segments.Given as goal

-- a nested segment is entered at a greater depth
abbrev pub decreases-measure_segments : goal.decreases-measure_segments
decreases-measure_segments g l = 64 - (g.R.Reader.state l.reader.now).depth

-- the segments read so far are joined to `count` octets
abbrev pub invariant-segments : goal.invariant-segments
invariant-segments g l =
    record {
      same : Same (g.R.Reader.state l.fn.reader) (g.R.Reader.state l.reader);
      so_far : Measures (g.R.Reader.state l.fn.reader) l.count (g.R.Reader.state l.reader);
    }

abbrev pub decreases-segments : goal.decreases-segments
decreases-segments g l = (g.R.Reader.state l.reader).end - (g.R.Reader.state l.reader).position
