-- Lookup of an item of a list by its type, an object identifier.
use Rattle.std.specs.Prelude.{◌≡◌, ◌↔◌, ℕ, ◌^◌, ◌<◌, Bool, true, List, [], ◌∷◌, filter, length, bytes_eq, Option, Some, None, Result, Ok, Err, IfOk}
use Rattle.der.specs.Decode.{SucceedsOrLacks, WholeAnswer, is_out_of_memory_kind}
use Rattle.der.specs.Prelude.{Der, ElementRead, Error, Head, ReaderState, Tag}
use Rattle.der.specs.Prelude.{element_octets, kind_of}
use Rattle.der_asn1.specs.SequenceOf.{IsListOf}
use Rattle.x509.specs.declared.asn1.attribute.Attribute.{Attribute}
use Rattle.x509.specs.declared.asn1.extension.Extension.{Extension}
use Rattle.x509.specs.declared.find.error.FindError.{FindError}
use Rattle.x509.specs.declared.find.error.FindError.TheVariants.{Repeated, Contents}
use Rattle.x509.specs.declared.find.known.Known.{Known}
use Rattle.x509.specs.declared.find.occurrence.Occurrence.{Occurrence}
use Rattle.x509.specs.declared.find.occurrence.Occurrence.TheVariants.{Absent, Once, Several}

-- the items with this object identifier, in order
abbrev pub of_type : {A : Type 0} → (A → List ℕ) → List ℕ → List A → List A
of_type type_of oid items = filter (λ v. bytes_eq (type_of v) oid) items

-- no item, the only item, or several items
abbrev pub occurrence : {A : Type 0} → List A → Occurrence A
occurrence [] = Absent
occurrence (v ∷ []) = Once v
occurrence (v ∷ w ∷ vs) = Several

-- the same with one more item
abbrev pub occurrence_with : {A : Type 0} → Occurrence A → A → Occurrence A
occurrence_with Absent v = Once v
occurrence_with (Once w) v = Several
occurrence_with Several v = Several

-- two lists together
abbrev pub occurrence_and : {A : Type 0} → Occurrence A → Occurrence A → Occurrence A
occurrence_and found Absent = found
occurrence_and found (Once v) = occurrence_with found v
occurrence_and found Several = Several

-- octets are the encodings of items; what they have with this object identifier
pub record HasOccurrence {A : Type 0} (valid : A → Type 0) (encoding : A → List ℕ)
    (type_of : A → List ℕ) (oid octets : List ℕ) (result : Occurrence A) : Type 0 where
  pub list : IsListOf valid encoding octets
  pub only : result ≡ occurrence (of_type type_of oid list.items)

-- the result of decoding octets that must be the whole encoding of a value
pub record WholeRead {A : Type 0} (tag : Tag) (valid : A → Type 0) (contents : A → List ℕ)
    (allocates : Bool) (answers : Head → ReaderState → Result A Error → ReaderState → Type 0)
    (octets : List ℕ) (result : Result A Error) : Type 0 where
  -- a value that is returned is valid, and the octets are its encoding
  pub ok : IfOk result (λ v. valid v × (octets ≡ element_octets tag (contents v)))
  -- the encoding of a valid value is decoded, unless an allocation fails
  pub complete : (v : A) → length octets < 2 ^ 32 → valid v
      → octets ≡ element_octets tag (contents v)
      → SucceedsOrLacks (λ e. is_out_of_memory_kind (kind_of e)) allocates result
  -- the exact value or error
  pub exact : WholeAnswer Der (ElementRead tag (λ e f. f ≡ e) answers) (λ e f. f ≡ e) octets
      result

-- the outcome for the only extension of a type: its contents are a value, or they have an error
abbrev pub KnownAnswer : {A : Type 0} → (List ℕ → Result A Error → Type 0) → Extension
    → Result (Option (Known A)) FindError → Type 0
KnownAnswer reads e (Ok None) = ⊥
KnownAnswer reads e (Ok (Some k)) = reads e.extn_value.octets.now (Ok k.value)
    × ((k.critical ≡ true) ↔ (e.critical.0.octets.now ≡ 255 ∷ []))
KnownAnswer reads e (Err Repeated) = ⊥
KnownAnswer reads e (Err (Contents error)) = reads e.extn_value.octets.now (Err error)

-- the outcome for the extensions of a type
abbrev pub FindAnswer : {A : Type 0} → (List ℕ → Result A Error → Type 0) → List Extension
    → Result (Option (Known A)) FindError → Type 0
FindAnswer reads [] result = result ≡ Ok None
FindAnswer reads (e ∷ []) result = KnownAnswer reads e result
FindAnswer reads (e ∷ f ∷ es) result = result ≡ Err Repeated

-- octets are the encodings of extensions; the outcome for those with this object identifier
pub record FindsExtension {A : Type 0} (valid : Extension → Type 0)
    (encoding : Extension → List ℕ) (reads : List ℕ → Result A Error → Type 0)
    (oid octets : List ℕ) (result : Result (Option (Known A)) FindError) : Type 0 where
  pub list : IsListOf valid encoding octets
  pub answer : FindAnswer reads (of_type (λ e. e.extn_id.octets.now) oid list.items) result

-- the outcome for the only attribute of a type in a request: its values are one value, or they have
-- an error
abbrev pub AttributeAnswer : {A : Type 0} → (List ℕ → Result A Error → Type 0) → Attribute
    → Result (Option A) FindError → Type 0
AttributeAnswer reads a (Ok None) = ⊥
AttributeAnswer reads a (Ok (Some v)) = reads a.values.elements.octets.now (Ok v)
AttributeAnswer reads a (Err Repeated) = ⊥
AttributeAnswer reads a (Err (Contents error)) = reads a.values.elements.octets.now (Err error)

-- the outcome for the attributes of a type
abbrev pub FindAttributeAnswer : {A : Type 0} → (List ℕ → Result A Error → Type 0)
    → List Attribute → Result (Option A) FindError → Type 0
FindAttributeAnswer reads [] result = result ≡ Ok None
FindAttributeAnswer reads (a ∷ []) result = AttributeAnswer reads a result
FindAttributeAnswer reads (a ∷ b ∷ others) result = result ≡ Err Repeated

-- octets are the encodings of attributes; the outcome for those with this object identifier
pub record FindsAttribute {A : Type 0} (valid : Attribute → Type 0)
    (encoding : Attribute → List ℕ) (reads : List ℕ → Result A Error → Type 0)
    (oid octets : List ℕ) (result : Result (Option A) FindError) : Type 0 where
  pub list : IsListOf valid encoding octets
  pub answer : FindAttributeAnswer reads (of_type (λ a. a.oid.octets.now) oid list.items) result
