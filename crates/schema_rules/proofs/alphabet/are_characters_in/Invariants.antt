use Rattle.std.proofs.Common.{◌≡◌, length}
use Rattle.schema_rules.specs.Characters.{are_in_ranges, characters_of, codes_left}
use Rattle.schema_rules.proofs.alphabet.are_characters_in.Given as goal

abbrev pub invariant-loop-code : goal.invariant-loop-code
invariant-loop-code l = are_in_ranges l.ranges (characters_of l.fn.universal l.contents) ≡ are_in_ranges l.ranges (codes_left l.codes)

abbrev pub decreases-loop-code : goal.decreases-loop-code
decreases-loop-code l = length (codes_left l.codes)
