use Rattle.std.proofs.Common.{◌≡◌, drop}
use Rattle.der_asn1.specs.Alphabets.{visible_form}
use Rattle.der_asn1.proofs.strings.visible_string.VisibleStringGrammarContentsGrammar.matches_grammar.Given as goal

abbrev pub invariant-loop-octet : goal.invariant-loop-octet
invariant-loop-octet l = visible_form l.octets ≡ visible_form (drop l.octet-index l.octets)
