use Rattle.std.proofs.Common.{◌≡◌, ◌<◌, ◌^◌, map, take}
use Rattle.std.specs.Int.Digits.{number_from_digits}
use Rattle.der_asn1.specs.Integer.{turned}
use Rattle.schema_rules.proofs.range.magnitude_of.Given as goal

abbrev pub invariant-loop-octet : goal.invariant-loop-octet
invariant-loop-octet l = record {
  same : l.number ≡ number_from_digits 256 (map (turned l.negative) (take l.octet-index l.octets));
  below : l.number < 2 ^ 63;
}
