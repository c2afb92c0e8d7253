use Rattle.std.proofs.Common.{rules, arith}
use Rattle.der_core.proofs.BeforeLemmas.{placed_by_writer}
use Rattle.der_core.proofs.encode.Encode.encode_before.Goals as goal

pub returns : goal.returns
returns g c possible fits within =
    let count = c.in-Ok.ensures.ok in
    let from = c.from-count.ensures in
    let w = c.encode.ensures in
    placed_by_writer (g.Self.Encode.encoding c.args.self.now) c.args.buf.now _ _ c.from-count.result c.args.end _ c.encode.result _ c.encode.new.writer
    (search rules) c.within-writer.ensures w.ok (w.succeeds possible) (omega (arith, count, from)) c.from-count.type_inv (omega (arith, count, from, fits)) within
