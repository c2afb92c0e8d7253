use Rattle.std.proofs.Common.{◌↔◌, length}
use Rattle.schema_rules.specs.Characters.{characters_of, codes_left}
use Rattle.schema_read.specs.Constraints.{AreAllowedCodes}
use Rattle.schema_read.specs.Types.{types_in}
use Rattle.schema_read.proofs.alphabet.are_codes_allowed.Given as goal

abbrev pub invariant-loop-code : goal.invariant-loop-code
invariant-loop-code l =
    AreAllowedCodes (types_in l.schema.octets.now) l.fn.limits (characters_of l.fn.universal l.contents) ↔ AreAllowedCodes (types_in l.schema.octets.now) l.fn.limits (codes_left l.codes)

abbrev pub decreases-loop-code : goal.decreases-loop-code
decreases-loop-code l = length (codes_left l.codes)
