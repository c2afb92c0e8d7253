use Rattle.std.proofs.Common.{arith}
use Rattle.der_core.proofs.BeforeLemmas.{placed_element}
use Rattle.der_core.proofs.encode.AnyEncode.encode_before.Goals as goal

pub returns : goal.returns
returns g c possible =
    placed_element (g.T.Tagged.tag_of c.args.self.now) c.tag.result (g.T.WrittenValue.contents c.args.self.now) _ c.header_before.result c.encode_value_before-start.result c.args.end
    c.args.buf.now c.encode_value_before-start.new.buf c.header_before.new.buf c.tag.ensures (λ ends. omega (arith, ends, c.encode_value_before-start.type_inv, c.ranges.end.fits))
    (c.encode_value_before-start.ensures possible) c.header_before.ensures
