use Rattle.std.proofs.Common.{◌≡◌, length}
use Rattle.schema_rules.specs.Codes.{universal_form}
use Rattle.schema_rules.proofs.characters.is_universal.Given as goal

abbrev pub invariant-loop-octets : goal.invariant-loop-octets
invariant-loop-octets l = universal_form l.contents ≡ universal_form l.octets

abbrev pub decreases-loop-octets : goal.decreases-loop-octets
decreases-loop-octets l = length l.octets
