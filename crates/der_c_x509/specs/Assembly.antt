-- The contents of what certificates and requests are made of: a level of a name, an extension, an
-- algorithm, a signed structure, and the parts of a request and of a certificate that are signed.
use Rattle.std.specs.Prelude.{◌≡◌, ℕ, Bool, true, List, [], ◌∷◌, ◌++◌, length, if◌then◌else◌}
use Rattle.std.specs.Option.{unwrap_or}
use Rattle.der_base.specs.Tag.{tag_number, universal_tag}
use Rattle.der_base.specs.declared.tag.Tag.{Tag}
use Rattle.der_base.specs.declared.tag.Tag.TheVariants.{BitString, Boolean, ContextSpecific, Integer, Null, ObjectIdentifier, OctetString, Sequence, Set, Utf8String}
use Rattle.der_core.specs.Encode.{element_octets}
use Rattle.der_c_x509.specs.declared.assembly.certificate.DerCertificateParts.{DerCertificateParts}

-- the tag of a string type, by its word; that of a UTF8String for the word of no universal tag
abbrev pub string_tag : ℕ → Tag
string_tag word = unwrap_or (universal_tag word) Utf8String

-- AttributeTypeAndValue (RFC 5280, 4.1.2.4): an OBJECT IDENTIFIER and a text
abbrev pub attribute_octets : List ℕ → Tag → List ℕ → List ℕ
attribute_octets id tag text =
    element_octets Sequence (element_octets ObjectIdentifier id ++ element_octets tag text)

-- Extension (RFC 5280, 4.1): `critical` is DEFAULT FALSE
abbrev pub extension_contents : List ℕ → Bool → List ℕ → List ℕ
extension_contents id critical value =
    element_octets ObjectIdentifier id
    ++ ((if critical then element_octets Boolean (255 ∷ []) else [])
    ++ element_octets OctetString value)

-- AlgorithmIdentifier (RFC 5280, 4.1.1.2): the parameters are NULL, or there are none
abbrev pub algorithm_contents : List ℕ → Bool → List ℕ
algorithm_contents id is_null =
    element_octets ObjectIdentifier id ++ (if is_null then element_octets Null [] else [])

-- Certificate, CertificateList (RFC 5280, 4.1 and 5.1) and CertificationRequest (RFC 2986, 4.2): what
-- is signed, the algorithm, and a signature of whole octets
abbrev pub signed_contents : List ℕ → List ℕ → List ℕ → List ℕ
signed_contents part algorithm signature =
    part ++ (algorithm ++ element_octets BitString (0 ∷ signature))

-- an element with a context-specific tag around others
abbrev pub context_octets : ℕ → List ℕ → List ℕ
context_octets n contents = element_octets (ContextSpecific true (tag_number n)) contents

-- extensionRequest (RFC 2985, 5.4.2), 1.2.840.113549.1.9.14
abbrev pub extension_request : List ℕ
extension_request = 42 ∷ 134 ∷ 72 ∷ 134 ∷ 247 ∷ 13 ∷ 1 ∷ 9 ∷ 14 ∷ []

-- the attributes of a request: one that requests these extensions; or none, if there are no octets
abbrev pub request_attributes : List ℕ → List ℕ
request_attributes [] = []
request_attributes (o ∷ more) =
    element_octets Sequence (element_octets ObjectIdentifier extension_request
    ++ element_octets Set (o ∷ more))

-- CertificationRequestInfo (RFC 2986, 4.1) of version 1, which is written as 0
abbrev pub request_contents : List ℕ → List ℕ → List ℕ → List ℕ
request_contents subject key extensions =
    element_octets Integer (0 ∷ [])
    ++ (subject ++ (key ++ context_octets 0 (request_attributes extensions)))

-- the extensions of a certificate with their tag, or no octets
abbrev pub extensions_field : List ℕ → List ℕ
extensions_field [] = []
extensions_field (o ∷ more) = context_octets 3 (o ∷ more)

-- octets that make the field of extensions, if extensions of so many octets follow them
abbrev pub AreExtensionsHeader : List ℕ → List ℕ → ℕ → Type 0
AreExtensionsHeader tag count n =
    (xs : List ℕ) → length xs ≡ n → tag ++ (count ++ xs) ≡ extensions_field xs

-- TBSCertificate (RFC 5280, 4.1) of version 3, which is written as 2
abbrev pub certificate_contents : DerCertificateParts → List ℕ
certificate_contents p =
    context_octets 0 (element_octets Integer (2 ∷ []))
    ++ (element_octets Integer p.serial_number.octets.now
    ++ (p.signature_algorithm.octets.now
    ++ (p.issuer.octets.now
    ++ (p.validity.octets.now
    ++ (p.subject.octets.now
    ++ (p.public_key.octets.now ++ extensions_field p.extensions.octets.now))))))
