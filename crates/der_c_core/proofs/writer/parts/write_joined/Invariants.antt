use Rattle.std.proofs.Common.{◌≡◌, ◌+◌, ◌≤◌, false, length, drop}
use Rattle.der_core.specs.Writer.{appended_state}
use Rattle.der_c_core.specs.CWriter.{writer_state, KeepsOpen}
use Rattle.der_c_core.specs.JoinedSpans.{joined_spans}
use Rattle.der_c_core.proofs.writer.parts.write_joined.Given as goal

abbrev pub invariant-parts : goal.invariant-parts
invariant-parts l =
    ((writer_state l.writer).failed ≡ false)
    × (length (writer_state l.writer).octets + length (joined_spans (drop l.part-index l.parts)) ≤ (writer_state l.writer).stop)
    × (appended_state (writer_state l.writer) (joined_spans (drop l.part-index l.parts)) ≡ appended_state (writer_state l.initial.writer) (joined_spans l.parts))
    × KeepsOpen l.initial.writer l.writer
