use Rattle.std.proofs.Common.{◌↔◌}
use Rattle.der.specs.Prelude.{rest_of, slice_state}
use Rattle.x509_names.specs.NameMatching.{LevelsPair}
use Rattle.x509_names.proofs.matching.name.has_levels_of.Given as goal

abbrev pub invariant-loop-level : goal.invariant-loop-level
invariant-loop-level l =
    (goal.iterator-loop-level).can_next l.level-iterator ×
    (goal.iterator-loop-level).is_finite l.level-iterator
    × (LevelsPair l.matching l.whole l.first.levels.octets.now l.second.levels.octets.now ↔ LevelsPair l.matching l.whole (rest_of (slice_state l.level-iterator.items.reader)) (rest_of (slice_state l.others.items.reader)))
