use Rattle.std.proofs.Common.{◌≤◌}
use Rattle.der.specs.Prelude.{Same, slice_state}
use Rattle.example_calls.proofs.nested.count_rest.Given as goal

abbrev pub invariant-loop : goal.invariant-loop
invariant-loop l = Same (slice_state l.fn.reader) (slice_state l.reader) × (l.count ≤ l.counter)
