-- The octets that a signature with signed attributes covers: `covered_octets` (RFC 5652, 5.4).
use Rattle.std.specs.Prelude.{ℕ, List, Option}
use Rattle.std.specs.Option.{option_map}
use Rattle.der.specs.Prelude.{Set, element_octets}
use Rattle.cms.specs.declared.asn1.signer_info.SignerInfo.{SignerInfo}

-- the encoding of the signed attributes with the tag of a SET OF, if there are any
abbrev pub covered_octets : SignerInfo → Option (List ℕ)
covered_octets v = option_map (λ a. element_octets Set a.0.elements.octets.now) v.signed_attrs.0
