-- Lemmas on the extensions of a certificate: what a search found, and what the certificate has.
use Rattle.std.proofs.Common.{◌≡◌, ◌≤◌, ◌<◌, ◌^◌, ℕ, List, [], ◌++◌, length, IfNone, IfSome, Option, Some, None, Result, Ok, Err, if◌then◌else◌, ap, arith, length-append}
use Rattle.der.specs.Prelude.{Boolean, Error, ObjectIdentifier, OctetString, Sequence, Tag, element_octets, header_octets}
use Rattle.der_asn1.specs.Forms.{is_false}
use Rattle.x509.proofs.EncodingLemmas.{extension_same, extensions_apart}
use Rattle.x509.specs.CertificateLists.{IsExtension, extension_encoding}
use Rattle.x509.specs.Find.{FindsExtension}
use Rattle.x509.specs.declared.asn1.extension.Extension.{Extension}
use Rattle.x509.specs.declared.asn1.tbs_certificate.TbsCertificate.{TbsCertificate}
use Rattle.x509.specs.declared.find.error.FindError.{FindError}
use Rattle.x509.specs.declared.find.known.Known.{Known}
use Rattle.x509_path.proofs.ValueLemmas.{err_not, none_has, none_is, some_has, some_is, some_not}
use Rattle.x509_path.specs.ExtensionValue.{ExtensionHas}

-- extensions with the same encoding have the same identifier and the same value
extension_read : (v w : Extension) → extension_encoding v ≡ extension_encoding w → (v.extn_id.octets.now ≡ w.extn_id.octets.now) × (v.extn_value.octets.now ≡ w.extn_value.octets.now)
extension_read v w e = let same = extension_same v w e in (same.0, same.1.1)

-- contents are within their element
pub contents_within : (tag : Tag) (c : List ℕ) → length c ≤ length (element_octets tag c)
contents_within tag c = omega (arith, length-append (header_octets tag (length c)) c)

pub contents_short : (tag : Tag) (v c : List ℕ) → length v < 2 ^ 32 → v ≡ element_octets tag c → length c < 2 ^ 32
contents_short tag v c short e =
    let within = contents_within tag c in
    let same = ap length e in
    omega (arith, within, same, short)

parts_within : (i f v : List ℕ) → length v ≤ length (element_octets Sequence (element_octets ObjectIdentifier i ++ (f ++ element_octets OctetString v)))
parts_within i f v =
    let value = contents_within OctetString v in
    let whole = contents_within Sequence (element_octets ObjectIdentifier i ++ (f ++ element_octets OctetString v)) in
    omega (arith, value, whole, length-append (element_octets ObjectIdentifier i) (f ++ element_octets OctetString v), length-append f (element_octets OctetString v))

value_within : (e : Extension) → length e.extn_value.octets.now ≤ length (extension_encoding e)
value_within e =
    parts_within e.extn_id.octets.now (if is_false e.critical.0.octets.now then [] else element_octets Boolean e.critical.0.octets.now) e.extn_value.octets.now

module _ {V : Type 0} (reads : List ℕ → Result V Error → Type 0) (id : List ℕ) (P : Option (List ℕ) → Type 0) (c : TbsCertificate) (result : Result (Option (Known V)) FindError)
    (absent : IfNone c.extensions.0 (result ≡ Ok None))
    (found : IfSome c.extensions.0 (λ e. FindsExtension IsExtension extension_encoding reads id e.0.items.octets.now result)) where
  pub has_none : result ≡ Ok None → P None → ExtensionHas id P c
  has_none is p = none_has (λ e. e.0.items.octets.now) IsExtension extension_encoding extensions_apart value_within extension_read (λ e. e.0.items.short) reads id P c.extensions.0 result is (absent, found) p

  pub is_none : result ≡ Ok None → ExtensionHas id P c → P None
  is_none is p = none_is (λ e. e.0.items.octets.now) IsExtension extension_encoding extensions_apart value_within extension_read (λ e. e.0.items.short) reads id P c.extensions.0 result is (absent, found) p

  pub has_some : (k : Known V) → result ≡ Ok (Some k) → ((v : List ℕ) → reads v (Ok k.value) → P (Some v)) → ExtensionHas id P c
  has_some k is h = some_has (λ e. e.0.items.octets.now) IsExtension extension_encoding extensions_apart value_within extension_read (λ e. e.0.items.short) reads id P c.extensions.0 result k is (absent, found) h

  pub not_some : (k : Known V) → result ≡ Ok (Some k) → ((v : List ℕ) → reads v (Ok k.value) → P (Some v) → ⊥) → ExtensionHas id P c → ⊥
  not_some k is h p = some_not (λ e. e.0.items.octets.now) IsExtension extension_encoding extensions_apart value_within extension_read (λ e. e.0.items.short) reads id P c.extensions.0 result k is (absent, found) h p

  pub is_some : (k : Known V) → result ≡ Ok (Some k) → ExtensionHas id P c → ((v : List ℕ) × reads v (Ok k.value) × P (Some v))
  is_some k is p = some_is (λ e. e.0.items.octets.now) IsExtension extension_encoding extensions_apart value_within extension_read (λ e. e.0.items.short) reads id P c.extensions.0 result k is (absent, found) p

  pub not_err : (error : FindError) → result ≡ Err error → ((v : List ℕ) (inner : Error) → length v < 2 ^ 32 → reads v (Err inner) → P (Some v) → ⊥) → ExtensionHas id P c → ⊥
  not_err error is h p = err_not (λ e. e.0.items.octets.now) IsExtension extension_encoding extensions_apart value_within extension_read (λ e. e.0.items.short) reads id P c.extensions.0 result error is (absent, found) h p
