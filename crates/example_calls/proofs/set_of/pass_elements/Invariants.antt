use Rattle.std.proofs.Common.{◌-◌}
use Rattle.der.specs.Prelude.{Same, slice_state}
use Rattle.der.specs.BorrowedOctets.{borrowed_octets}
use Rattle.example_calls.proofs.SetReadLemmas.{PassedTo}
use Rattle.example_calls.proofs.set_of.pass_elements.Given as goal

abbrev pub invariant-loop-previous : goal.invariant-loop-previous
invariant-loop-previous l = Same (slice_state l.fn.reader) (slice_state l.reader) × PassedTo (slice_state l.fn.reader) (slice_state l.reader) (borrowed_octets l.previous)

abbrev pub decreases-loop-previous : goal.decreases-loop-previous
decreases-loop-previous l = l.reader.place.end - l.reader.place.position
