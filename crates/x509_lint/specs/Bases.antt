-- The bases of subtrees (RFC 5280, 4.2.1.10): `BaseKeeps`.
use Rattle.std.specs.Prelude.{◌≡◌, ℕ, false, List}
use Rattle.der.specs.Prelude.{Tag}
use Rattle.der_asn1.specs.ContextSpecific.{context_tag}
use Rattle.x509_names.specs.Addresses.{IsRange}
use Rattle.x509_names.specs.Comparable.{IsUriConstraint}
use Rattle.x509_lint.specs.declared.base_rule.BaseRule.{BaseRule}
use Rattle.x509_lint.specs.declared.base_rule.BaseRule.TheVariants.{Domain, Range}

-- the base of a subtree keeps a rule: the constraint of a URI has the tag [6], that of an address [7]
abbrev pub BaseKeeps : BaseRule → Tag → List ℕ → Type 0
BaseKeeps Domain t c = t ≡ context_tag false 6 → IsUriConstraint c
BaseKeeps Range t c = t ≡ context_tag false 7 → IsRange c
