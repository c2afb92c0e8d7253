use Rattle.std.proofs.Common.{rules, arith}
use Rattle.der_core.proofs.BeforeLemmas.{placed_by_writer}
use Rattle.der_core.proofs.encode.value.EncodeValue.encode_value_before.Goals as goal

pub returns : goal.returns
returns g c possible fits within =
    let count = c.in-Ok.ensures.ok in
    let from = c.from-count.ensures in
    let w = c.encode_value.ensures in
    placed_by_writer (g.Self.WrittenValue.contents c.args.self.now) c.args.buf.now _ _ c.from-count.result c.args.end _ c.encode_value.result _ c.encode_value.new.writer
    (search rules) c.within-writer.ensures w.ok (w.succeeds possible) (omega (arith, count, from)) c.from-count.type_inv (omega (arith, count, from, fits)) within
