use Rattle.std.proofs.Common.{◌∙◌, rules}
use Rattle.der_base.specs.declared.encoding_rules.EncodingRules.TheVariants.{Der, Ber}
use Rattle.schema_read.specs.Notes.{departures_of}
use Rattle.schema_read.specs.Types.{types_in}
use Rattle.schema_read.proofs.DepartureLemmas.{none_departs, some_depart, none_counted}
use Rattle.schema_read.proofs.FindsLemmas.{through, back}
use Rattle.schema_read.proofs.WholeLemmas.{kept_verdict, exact_of, ber_there, inside_there, placed_there, fits_there}
use Rattle.schema_read.proofs.walk.read_into.Goals as goal

pub returns-clause-der : goal.returns-clause-der
unfolding types_in
returns-clause-der c all =
    let found = c.in_ok-verdict.ensures in
    let notes = c.walk.new.notes in
    through (none_counted notes.departures.now notes.departure_count notes.departures_fit)
    (through (back (none_departs (departures_of notes))) (exact_of (kept_verdict c.new-notes.ensures.none c.new-notes.ensures.kept found.log all) found.exact Der))

pub returns-clause-ber : goal.returns-clause-ber
unfolding types_in
returns-clause-ber c all =
    let found = c.in_ok-verdict.ensures in
    let same = found.log.departures ∙ c.new-notes.ensures.departures in
    ber_there c.walk.new.notes (search (rules, same))
    (through (back (some_depart (departures_of c.walk.new.notes))) (exact_of (kept_verdict c.new-notes.ensures.none c.new-notes.ensures.kept found.log all) found.exact Ber))

pub returns-clause-inside : goal.returns-clause-inside
returns-clause-inside c =
    let found = c.in_ok-verdict.ensures in
    let same = found.log.departures ∙ c.new-notes.ensures.departures in
    inside_there c.walk.new.notes (search (rules, same)) (found.end ∙ c.new-notes.ensures.end)

pub returns-clause-placed : goal.returns-clause-placed
returns-clause-placed c =
    let found = c.in_ok-verdict.ensures in
    let same = found.log.entries ∙ c.new-notes.ensures.entries in
    placed_there c.walk.new.notes (search (rules, same)) (found.end ∙ c.new-notes.ensures.end)

pub returns-clause-fits : goal.returns-clause-fits
returns-clause-fits c =
    let found = c.in_ok-verdict.ensures in
    let entries = found.log.entries ∙ c.new-notes.ensures.entries in
    let departures = found.log.departures ∙ c.new-notes.ensures.departures in
    fits_there c.walk.new.notes (search (rules, entries)) (search (rules, departures))
