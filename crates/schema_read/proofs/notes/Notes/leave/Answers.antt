use Rattle.std.proofs.Common.{◌≤◌, sym, subst, arith}
use Rattle.std.proofs.lemmas.List.{length-set}
use Rattle.schema_read.proofs.EntryLemmas.{placed_put}
use Rattle.schema_read.proofs.notes.Notes.leave.Goals as goal

pub invariant_of-self : goal.invariant_of-self
invariant_of-self c =
    let self = c.args.self.now in
    record {
      entries_fit = subst (λ n. self.entry_count ≤ n) (sym (length-set self.entries.now c.args.index _)) self.entries_fit;
      departures_fit = self.departures_fit;
      inside = self.inside;
      placed = placed_put self.end self.entries.now self.entry_count c.args.index _ self.placed (omega (arith, c.requires, c.contents_len-contents_len.ensures));
    }
