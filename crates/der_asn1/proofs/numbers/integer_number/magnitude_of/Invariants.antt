use Rattle.std.proofs.Common.{◌≡◌, map, take}
use Rattle.std.specs.Int.Digits.{number_from_digits, AllBelowBase}
use Rattle.der_asn1.specs.Integer.{turned}
use Rattle.der_asn1.proofs.numbers.integer_number.magnitude_of.Given as goal

abbrev pub invariant-loop-octet : goal.invariant-loop-octet
invariant-loop-octet l =
    (l.number ≡ number_from_digits 256 (map (turned l.negative) (take l.octet-index l.octets)))
    × AllBelowBase 256 (take l.octet-index l.octets)
