use Rattle.std.proofs.Common.{ℕ, sym}
use Rattle.std.proofs.lemmas.Result.{err_from_is_err_and}
use Rattle.der_base.specs.Length.{number}
use Rattle.der_core.specs.Writer.{WriterState}
use Rattle.der_core.specs.SliceWriter.{slice_writer_state}
use Rattle.der_core.specs.WrittenSequence.{part_state, no_space, ran}
use Rattle.der_core.proofs.WriterLemmas.{granted, refused_alike, ran_over, kept_round, fills}
use Rattle.der_core.proofs.writer.slice.SliceWriter.fill_part.Goals as goal

pub returns-clause-kept : goal.returns-clause-kept
returns-clause-kept g c =
    let s : WriterState = slice_writer_state c.args.self.now in
    let n : ℕ = number c.args.len in
    let apart = granted n s (part_state s n) (slice_writer_state c.set_apart.new.self) c.in_ok-set_apart.ensures.exact in
    kept_round _ _ s _ n _ c.requires (ran_over _ _ s _ n _ _ _ _ c.requires apart.2 apart.1 c.f-answer.ensures c.close_part.ensures)

pub returns-clause-runs : goal.returns-clause-runs
returns-clause-runs g c alive space =
    let s : WriterState = slice_writer_state c.args.self.now in
    let n : ℕ = number c.args.len in
    let apart = granted n s (part_state s n) (slice_writer_state c.set_apart.new.self) c.in_ok-set_apart.ensures.exact in
    ran_over _ _ s _ n _ _ _ _ c.requires apart.2 apart.1 c.f-answer.ensures c.close_part.ensures

pub returns-clause-ok : goal.returns-clause-ok
returns-clause-ok g c =
    let s : WriterState = slice_writer_state c.args.self.now in
    let n : ℕ = number c.args.len in
    let apart = granted n s (part_state s n) (slice_writer_state c.set_apart.new.self) c.in_ok-set_apart.ensures.exact in
    fills _ s _ n _ (ran_over _ _ s _ n _ _ _ _ c.requires apart.2 apart.1 c.f-answer.ensures c.close_part.ensures)

pub returns-clause-exact : goal.returns-clause-exact
returns-clause-exact g c =
    let s : WriterState = slice_writer_state c.args.self.now in
    let n : ℕ = number c.args.len in
    let apart = granted n s (part_state s n) (slice_writer_state c.set_apart.new.self) c.in_ok-set_apart.ensures.exact in
    ran apart.0 (ran_over _ _ s _ n _ _ _ _ c.requires apart.2 apart.1 c.f-answer.ensures c.close_part.ensures)

pub returns-in_err-set_apart-clause-exact : goal.returns-in_err-set_apart-clause-exact
returns-in_err-set_apart-clause-exact g c =
    let s : WriterState = slice_writer_state c.args.self.now in
    let n : ℕ = number c.args.len in
    let e = refused_alike n s (part_state s n) (slice_writer_state c.set_apart.new.self) _ c.in_err-set_apart.ensures.exact in
    let p = err_from_is_err_and c.from_residual.result c.from_residual.ensures.1 in
    rw (p.1, p.2) (no_space _ (sym e.answered) e)
