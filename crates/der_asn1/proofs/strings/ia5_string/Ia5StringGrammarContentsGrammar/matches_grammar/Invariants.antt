use Rattle.std.proofs.Common.{◌≡◌, drop}
use Rattle.der_asn1.specs.Forms.{ia5_form}
use Rattle.der_asn1.proofs.strings.ia5_string.Ia5StringGrammarContentsGrammar.matches_grammar.Given as goal

abbrev pub invariant-loop-octet : goal.invariant-loop-octet
invariant-loop-octet l = ia5_form l.octets ≡ ia5_form (drop l.octet-index l.octets)
