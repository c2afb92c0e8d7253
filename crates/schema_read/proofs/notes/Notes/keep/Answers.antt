use Rattle.std.proofs.Common.{◌+◌, ◌<◌, ◌≤◌, length, sym, subst, arith}
use Rattle.std.proofs.lemmas.List.{length-set}
use Rattle.schema_read.proofs.DepartureLemmas.{inside_added}
use Rattle.schema_read.proofs.notes.Notes.keep.Goals as goal

pub invariant_of-self : goal.invariant_of-self
invariant_of-self c =
    let self = c.args.self.now in
    let room : self.departure_count < length self.departures.now = c.requires.room in
    record {
      entries_fit = self.entries_fit;
      departures_fit = subst (λ n. self.departure_count + 1 ≤ n) (sym (length-set self.departures.now self.departure_count c.args.departure)) (omega (arith, room));
      inside = inside_added self.end self.departures.now self.departure_count c.args.departure room self.inside c.requires.inside;
      placed = self.placed;
    }
