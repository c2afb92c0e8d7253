use Rattle.std.proofs.Common.{false, refl}
use Rattle.der_asn1.specs.Integer.{integer_octets}
use Rattle.der_asn1.proofs.RangeLemmas.{range_form_from}
use Rattle.der_asn1.proofs.numbers.in_range.InRangeIntegerNumber.to_contents.Goals as goal

pub returns-clause-formed : goal.returns-clause-formed
returns-clause-formed g c =
    range_form_from g.row.MIN g.row.MAX c.args.self.number (integer_octets false c.args.self.number) c.to_contents.ensures.formed refl c.args.self.within
