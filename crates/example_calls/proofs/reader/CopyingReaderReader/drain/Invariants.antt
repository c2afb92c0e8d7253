use Rattle.std.proofs.Common.{◌≡◌, ◌-◌, ◌≤◌}
use Rattle.der.specs.Prelude.{slice_state, Same}
use Rattle.der.specs.ReaderState.{advanced_state}
use Rattle.example_calls.proofs.reader.CopyingReaderReader.drain.Given as goal

-- the reader is still the same, after what is consumed so far
abbrev pub invariant-loop-self : goal.invariant-loop-self
invariant-loop-self l =
    Same (slice_state l.fn.self.inner) (slice_state l.self.inner)
    × (slice_state l.self.inner ≡ advanced_state (slice_state l.fn.self.inner) (l.fn.amount.inner - l.left))
    × (l.left ≤ l.fn.amount.inner)

abbrev pub decreases-loop-self : goal.decreases-loop-self
decreases-loop-self l = l.left
