use Rattle.std.proofs.Common.{◌≡◌, drop}
use Rattle.der_asn1.specs.Alphabets.{numeric_form}
use Rattle.der_asn1.proofs.strings.numeric_string.NumericStringGrammarContentsGrammar.matches_grammar.Given as goal

abbrev pub invariant-loop-octet : goal.invariant-loop-octet
invariant-loop-octet l = numeric_form l.octets ≡ numeric_form (drop l.octet-index l.octets)
