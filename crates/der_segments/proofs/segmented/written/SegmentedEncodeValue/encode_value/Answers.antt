use Rattle.std.proofs.lemmas.Result.{err_from_is_err_and}
use Rattle.der_segments.proofs.WriteLemmas.{piece_written, piece_keeps, piece_unwritten, piece_fits}
use Rattle.der_segments.proofs.segmented.written.SegmentedEncodeValue.encode_value.Goals as goal

pub pieces-preserved : goal.pieces-preserved
pieces-preserved g c = piece_written c.pieces.invariant c.in-Some.ensures.steps c.in_ok-write.ensures.ok c.in_ok-write.ensures.exact

pub returns-in_err-write-clause-kept : goal.returns-in_err-write-clause-kept
returns-in_err-write-clause-kept g c = piece_keeps c.pieces.invariant c.in-Some.ensures.steps c.write.ensures.kept

pub returns-in_err-write-clause-succeeds : goal.returns-in_err-write-clause-succeeds
returns-in_err-write-clause-succeeds g c counted short working room = absurd (piece_fits c.pieces.invariant c.in-Some.ensures.steps c.in_err-write.field-0.0 working room c.in_err-write.ensures.succeeds)

pub returns-in_err-write-clause-exact : goal.returns-in_err-write-clause-exact
returns-in_err-write-clause-exact g c reliable =
    let p = err_from_is_err_and c.from_residual.result c.from_residual.ensures.1 in
    rw (p.1, p.2) (piece_unwritten c.pieces.invariant c.in-Some.ensures.steps c.in_err-write.field-0.0 reliable (c.in_err-write.ensures.exact reliable))
