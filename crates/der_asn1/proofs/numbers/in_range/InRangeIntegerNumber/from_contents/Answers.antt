use Rattle.std.proofs.Common.{refl}
use Rattle.der_asn1.proofs.RangeLemmas.{range_form_from, range_form-within}
use Rattle.der_asn1.proofs.numbers.in_range.InRangeIntegerNumber.from_contents.Goals as goal

pub returns-clause-some : goal.returns-clause-some
returns-clause-some g c =
    let number = c.in_ok-from_contents.field-0 in
    let read = c.in_ok-from_contents.ensures in (
      λ some. range_form_from g.row.MIN g.row.MAX number c.args.octets.now (read.some.0 refl) read.same (c.new.ensures.some.0 some),
      λ form. c.new.ensures.some.1 (range_form-within g.row.MIN g.row.MAX number c.args.octets.now read.same form),
    )
