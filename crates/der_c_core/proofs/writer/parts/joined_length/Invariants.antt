use Rattle.std.proofs.Common.{◌≡◌, ◌+◌, length, drop}
use Rattle.der_c_core.specs.JoinedSpans.{joined_spans}
use Rattle.der_c_core.proofs.writer.parts.joined_length.Given as goal

abbrev pub invariant-parts : goal.invariant-parts
invariant-parts l =
    l.count + length (joined_spans (drop l.part-index l.parts)) ≡ length (joined_spans l.parts)
