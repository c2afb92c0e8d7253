-- The attributes of a name, which is a list of levels (RFC 5280, 4.1.2.4).
use Rattle.std.specs.Prelude.{◌≡◌, ℕ, List, [], ◌∷◌, ◌++◌, Option, Some, None}
use Rattle.der_asn1.specs.SequenceOf.{IsListOf}
use Rattle.x509.specs.Find.{occurrence, of_type}
use Rattle.x509.specs.declared.asn1.attribute_type_and_value.AttributeTypeAndValue.{AttributeTypeAndValue}
use Rattle.x509.specs.declared.asn1.relative_distinguished_name.RelativeDistinguishedName.{RelativeDistinguishedName}
use Rattle.x509.specs.declared.find.occurrence.Occurrence.{Occurrence}

-- the attributes of levels, in order: those of the first level, and those of the others
abbrev pub AreAttributes : (AttributeTypeAndValue → Type 0) → (AttributeTypeAndValue → List ℕ)
    → List RelativeDistinguishedName → List AttributeTypeAndValue → Type 0
AreAttributes valid encoding [] attributes = attributes ≡ []
AreAttributes valid encoding (r ∷ rs) attributes =
    (first : IsListOf valid encoding r.attributes.elements.octets.now)
    × (others : List AttributeTypeAndValue) × AreAttributes valid encoding rs others
    × (attributes ≡ first.items ++ others)

-- the attributes that are left: the octets of the rest of a level and those of the levels after it
-- are the encodings of these attributes
pub record HasLeft (valid : AttributeTypeAndValue → Type 0)
    (encoding : AttributeTypeAndValue → List ℕ) (is_level : RelativeDistinguishedName → Type 0)
    (level : RelativeDistinguishedName → List ℕ) (first levels : List ℕ)
    (attributes : List AttributeTypeAndValue) : Type 0 where
  pub of_level : IsListOf valid encoding first
  pub of_levels : IsListOf is_level level levels
  pub others : List AttributeTypeAndValue
  pub all : AreAttributes valid encoding of_levels.items others
  pub joined : attributes ≡ of_level.items ++ others

-- the next attribute comes before those that are left then; or there is none
abbrev pub GivesAttribute : (List ℕ → List ℕ → List AttributeTypeAndValue → Type 0) → List ℕ
    → List ℕ → Option AttributeTypeAndValue → List ℕ → List ℕ → Type 0
GivesAttribute Left first levels None first' levels' = Left first levels []
GivesAttribute Left first levels (Some a) first' levels' = (attributes : List _)
    → Left first' levels' attributes → Left first levels (a ∷ attributes)

-- octets are the encodings of levels; what their attributes have with this object identifier
pub record HasAttribute (valid : AttributeTypeAndValue → Type 0)
    (encoding : AttributeTypeAndValue → List ℕ) (is_level : RelativeDistinguishedName → Type 0)
    (level : RelativeDistinguishedName → List ℕ) (oid octets : List ℕ)
    (result : Occurrence AttributeTypeAndValue) : Type 0 where
  pub levels : IsListOf is_level level octets
  pub attributes : List AttributeTypeAndValue
  pub all : AreAttributes valid encoding levels.items attributes
  pub only : result ≡ occurrence (of_type (λ a. a.oid.octets.now) oid attributes)
