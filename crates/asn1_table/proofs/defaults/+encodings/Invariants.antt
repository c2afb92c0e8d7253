use Rattle.std.proofs.Common.{◌+◌, ◌*◌}
use Rattle.asn1_table.proofs.defaults.+encodings.Given as goal

abbrev pub decreases-encoding : goal.decreases-encoding
decreases-encoding l = 10 * l.depth

abbrev pub decreases-named : goal.decreases-named
decreases-named l = 10 * l.depth

abbrev pub decreases-open_value : goal.decreases-open_value
decreases-open_value l = 10 * l.depth

abbrev pub decreases-contents_of : goal.decreases-contents_of
decreases-contents_of l = 10 * l.depth + 1

abbrev pub decreases-components_of : goal.decreases-components_of
decreases-components_of l = 10 * l.depth

abbrev pub decreases-component_value : goal.decreases-component_value
decreases-component_value l = 10 * l.depth
