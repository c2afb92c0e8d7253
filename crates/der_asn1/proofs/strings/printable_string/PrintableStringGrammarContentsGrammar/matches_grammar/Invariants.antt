use Rattle.std.proofs.Common.{◌≡◌, drop}
use Rattle.der_asn1.specs.Forms.{printable_form}
use Rattle.der_asn1.proofs.strings.printable_string.PrintableStringGrammarContentsGrammar.matches_grammar.Given as goal

abbrev pub invariant-loop-octet : goal.invariant-loop-octet
invariant-loop-octet l = printable_form l.octets ≡ printable_form (drop l.octet-index l.octets)
