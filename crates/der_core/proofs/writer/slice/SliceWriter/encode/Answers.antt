use Rattle.std.proofs.Common.{refl, sym, subst, Ok}
use Rattle.der_core.specs.Writer.{WriterState, HasSpace}
use Rattle.der_core.specs.SliceWriter.{slice_writer_state}
use Rattle.der_core.proofs.writer.slice.SliceWriter.encode.Goals as goal

pub returns-clause-exact : goal.returns-clause-exact
returns-clause-exact g c alive =
    let s : WriterState = slice_writer_state c.args.self.now in
    let p = c.in-Some.ensures in
    let accepted = p.accepted s (subst (HasSpace s) p.counted (c.has_space.ensures c.if-has_space.true)) in
    (Ok tt, slice_writer_state c.append_before.new.self, subst (λ t. g.T.Encode.encode_answers c.args.value.now s (Ok tt) t) (sym c.append_before.ensures) accepted, refl, refl)
