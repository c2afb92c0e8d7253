use Rattle.std.proofs.Common.{◌+◌, ◌-◌, length}
use Rattle.der_c_values.proofs.OidFromTextLemmas.{IsReadingArcs}
use Rattle.der_c_values.proofs.oid_from_text.contents_of.Given as goal

abbrev pub invariant-arcs : goal.invariant-arcs
invariant-arcs l = IsReadingArcs l.text l.contents l.at

abbrev pub decreases-arcs : goal.decreases-arcs
decreases-arcs l = length l.text + 1 - l.at
