use Rattle.std.proofs.Common.{ap, ◌∙◌, ◌+◌, ◌*◌, arith, rules}
use Rattle.der_asn1.specs.Integer.{turned}
use Rattle.schema_rules.proofs.MagnitudeLemmas.{no_room}
use Rattle.der_asn1.proofs.IntegerReadLemmas.{next_digit}
use Rattle.schema_rules.proofs.range.magnitude_of.Goals as goal

pub returns-then-number-ge36028797018963968 : goal.returns-then-number-ge36028797018963968
returns-then-number-ge36028797018963968 c =
    no_room (turned c.args.negative) c.args.octets.now c.loop-octet.octet-index (omega (arith, c.loop-octet-test.true)) (omega (arith, c.loop-octet.invariant.same, c.if-number-ge36028797018963968.true))

pub loop-octet-preserved : goal.loop-octet-preserved
loop-octet-preserved c =
    record {
      same = ap (λ d. c.loop-octet.number * 256 + d) c.turned_octet.ensures ∙ next_digit (turned c.args.negative) c.args.octets.now c.loop-octet.octet-index c.loop-octet.number (omega (arith, c.loop-octet-test.true)) c.loop-octet.invariant.same;
      below = search rules;
    }
