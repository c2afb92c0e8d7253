use Rattle.std.proofs.Common.{arith, ap, ◌∙◌}
use Rattle.std.specs.Prelude.{length}
use Rattle.der_base.specs.Length.{number}
use Rattle.der_base.specs.Tag.{label, leading_octet}
use Rattle.der_base.proofs.LengthLemmas.{length_small}
use Rattle.der_core.proofs.EncodeLemmas.{header_of_two, header_written}
use Rattle.der_core.proofs.header.encode_header.Goals as goal

pub returns-then-has_space-clause-exact : goal.returns-then-has_space-clause-exact
returns-then-has_space-clause-exact g c reliable =
    let first = c.first_octet_of-first.ensures ∙ ap (leading_octet (label c.args.tag)) c.number-low.ensures in
    let few = length_small (number c.args.len) (omega (arith, c.from-count.ensures, c.if-count-lt128.true)) in
    let e = header_of_two c.args.tag (number c.args.len) c.first_octet_of-first.result _ (omega (arith, c.number-low.ensures, c.if-low-lt31.true)) first (ap length few) (omega (arith, c.from-count.ensures, c.if-count-lt128.true)) in
    header_written c.args.tag (number c.args.len) _ (g.W.Writer.state c.args.writer.now) _ _ e (c.has_space.ensures c.if-has_space.true) (c.write.ensures.exact reliable)
