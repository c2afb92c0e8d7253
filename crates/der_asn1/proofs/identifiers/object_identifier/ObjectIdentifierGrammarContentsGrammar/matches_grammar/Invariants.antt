use Rattle.std.proofs.Common.{◌≡◌, drop, true}
use Rattle.der_asn1.specs.Forms.{ends_subidentifiers}
use Rattle.der_asn1.proofs.identifiers.object_identifier.ObjectIdentifierGrammarContentsGrammar.matches_grammar.Given as goal

abbrev pub invariant-loop-octet : goal.invariant-loop-octet
invariant-loop-octet l = ends_subidentifiers true l.octets ≡ ends_subidentifiers l.starts (drop l.octet-index l.octets)
