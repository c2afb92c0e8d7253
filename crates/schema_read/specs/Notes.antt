-- What a walk has noted, in memory of the caller (`entries_of`, `departures_of`).
use Rattle.std.specs.Prelude.{List, take}
use Rattle.schema_read.specs.declared.departure.Departure.{Departure}
use Rattle.schema_read.specs.declared.entry.Entry.{Entry}
use Rattle.schema_read.specs.declared.notes.Notes.{Notes}

abbrev pub entries_of : Notes → List Entry
entries_of n = take n.entry_count n.entries.now

abbrev pub departures_of : Notes → List Departure
departures_of n = take n.departure_count n.departures.now
