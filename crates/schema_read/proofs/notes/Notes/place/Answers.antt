use Rattle.std.proofs.Common.{◌+◌, ◌<◌, ◌≤◌, length, sym, subst, arith}
use Rattle.std.proofs.lemmas.List.{length-set}
use Rattle.schema_read.proofs.EntryLemmas.{placed_added}
use Rattle.schema_read.proofs.notes.Notes.place.Goals as goal

pub invariant_of-self : goal.invariant_of-self
invariant_of-self c =
    let self = c.args.self.now in
    let room : self.entry_count < length self.entries.now = omega (arith, c.if-self.false) in
    record {
      entries_fit = subst (λ n. self.entry_count + 1 ≤ n) (sym (length-set self.entries.now self.entry_count c.args.entry)) (omega (arith, room));
      departures_fit = self.departures_fit;
      inside = self.inside;
      placed = placed_added self.end self.entries.now self.entry_count c.args.entry room self.placed c.requires;
    }
