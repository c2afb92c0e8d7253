use Rattle.std.proofs.Common.{◌+◌, ◌*◌}
use Rattle.asn1_syntax.proofs.parser.Parser.+types.Given as goal

abbrev pub decreases-type_at : goal.decreases-type_at
decreases-type_at l = 10 * l.depth

abbrev pub decreases-form : goal.decreases-form
decreases-form l = 10 * l.depth + 9

abbrev pub decreases-constraint_after : goal.decreases-constraint_after
decreases-constraint_after l = 10 * l.depth + 9

abbrev pub decreases-components : goal.decreases-components
decreases-components l = 10 * l.depth + 6

abbrev pub decreases-list_of : goal.decreases-list_of
decreases-list_of l = 10 * l.depth + 5

abbrev pub decreases-component : goal.decreases-component
decreases-component l = 10 * l.depth + 5

abbrev pub decreases-components_of : goal.decreases-components_of
decreases-components_of l = 10 * l.depth + 5
