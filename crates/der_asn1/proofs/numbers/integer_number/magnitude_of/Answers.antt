use Rattle.std.proofs.Common.{ap, ◌∙◌, ◌+◌, ◌*◌, arith, rules}
use Rattle.der_asn1.specs.Integer.{turned}
use Rattle.der_asn1.proofs.IntegerReadLemmas.{no_space, next_digit, next_below}
use Rattle.der_asn1.proofs.numbers.integer_number.magnitude_of.Goals as goal

pub returns-then-number-ge72057594037927936-clause-value : goal.returns-then-number-ge72057594037927936-clause-value
returns-then-number-ge72057594037927936-clause-value c =
    no_space (turned c.args.negative) c.args.octets.now c.loop-octet.octet-index (omega (arith, c.loop-octet-test.true)) (omega (arith, c.loop-octet.invariant.0, c.if-number-ge72057594037927936.true))

pub loop-octet-preserved : goal.loop-octet-preserved
loop-octet-preserved c = (
  ap (λ d. c.loop-octet.number * 256 + d) c.turned_octet.ensures ∙ next_digit (turned c.args.negative) c.args.octets.now c.loop-octet.octet-index c.loop-octet.number (omega (arith, c.loop-octet-test.true)) c.loop-octet.invariant.0,
  next_below c.args.octets.now c.loop-octet.octet-index (omega (arith, c.loop-octet-test.true)) (search rules) c.loop-octet.invariant.1,
)
