use Rattle.std.proofs.Common.{◌≡◌, drop}
use Rattle.schema_rules.specs.Decimal.{is_nonzero_decimal}
use Rattle.schema_rules.proofs.decimal_text.is_nonzero_decimal.Given as goal

abbrev pub invariant-loop-octet : goal.invariant-loop-octet
invariant-loop-octet l = is_nonzero_decimal l.octets ≡ is_nonzero_decimal (drop l.octet-index l.octets)
