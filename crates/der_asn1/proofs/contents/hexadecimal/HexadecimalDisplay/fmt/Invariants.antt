use Rattle.std.proofs.Common.{take}
use Rattle.std.specs.Fmt.{HasWritten, IsPlainFormatter}
use Rattle.der_asn1.specs.Printed.{octets_text}
use Rattle.der_asn1.proofs.contents.hexadecimal.HexadecimalDisplay.fmt.Given as goal

abbrev pub invariant-loop-octet : goal.invariant-loop-octet
invariant-loop-octet g l =
    IsPlainFormatter l.initial.f
    → HasWritten g.W.Write.write_str_gives l.initial.f (octets_text (take l.octet-index l.octet-items)) l.f
