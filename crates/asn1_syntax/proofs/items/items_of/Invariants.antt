use Rattle.std.proofs.Common.{◌≤◌, length}
use Rattle.asn1_syntax.proofs.items.items_of.Given as goal

abbrev pub invariant-loop : goal.invariant-loop
invariant-loop l = l.at ≤ length l.octets
