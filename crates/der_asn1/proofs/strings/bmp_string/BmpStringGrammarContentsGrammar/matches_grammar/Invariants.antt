use Rattle.std.proofs.Common.{◌≡◌, drop, true}
use Rattle.der_asn1.specs.Alphabets.{ends_codes}
use Rattle.der_asn1.proofs.strings.bmp_string.BmpStringGrammarContentsGrammar.matches_grammar.Given as goal

abbrev pub invariant-loop-octet : goal.invariant-loop-octet
invariant-loop-octet l = ends_codes true l.octets ≡ ends_codes l.starts (drop l.octet-index l.octets)
