use Rattle.std.proofs.Common.{◌-◌}
use Rattle.der_core.specs.ReaderState.{Same}
use Rattle.der.specs.Joining.{levels_left, AppendsJoined}
use Rattle.der.proofs.length.indefinite.+append_segments.Given as goal

-- a nested segment is entered at a greater depth
abbrev pub decreases-append_segments : goal.decreases-append_segments
decreases-append_segments g l = 64 - (g.R.Reader.state l.reader.now).depth

-- all octets read so far were joined
abbrev pub invariant-segments : goal.invariant-segments
invariant-segments g l =
    record {
      same : Same (g.R.Reader.state l.fn.reader) (g.R.Reader.state l.reader);
      so_far : AppendsJoined l.inner_tag (levels_left (g.R.Reader.state l.fn.reader)) (g.R.Reader.state l.fn.reader) l.fn.out.items l.out.items (g.R.Reader.state l.reader);
    }

abbrev pub decreases-segments : goal.decreases-segments
decreases-segments g l = (g.R.Reader.state l.reader).end - (g.R.Reader.state l.reader).position
