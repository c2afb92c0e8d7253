-- Lookup of an extension by its type, where its contents may be BER.
use Rattle.std.specs.Prelude.{◌≡◌, ◌↔◌, ℕ, ◌^◌, ◌<◌, ◌≤◌, Bool, true, false, List, [], ◌∷◌, length, Option, Some, None, Result, Ok, Err, IfOk}
use Rattle.der.specs.Decode.{SucceedsOrLacks, Whole, WholeAnswer, is_out_of_memory_kind}
use Rattle.der.specs.Prelude.{Ber, ElementNext, ElementRead, EncodingRules, Error, Head, ReaderState, Tag, element_levels}
use Rattle.der.specs.Prelude.{element_octets, kind_of}
use Rattle.der_asn1.specs.SequenceOf.{IsListOf}
use Rattle.x509.specs.Find.{of_type}
use Rattle.x509.specs.declared.asn1.extension.Extension.{Extension}
use Rattle.x509.specs.declared.find.error.FindError.{FindError}
use Rattle.x509.specs.declared.find.error.FindError.TheVariants.{Repeated, Contents}
use Rattle.x509.specs.declared.find.lenient.lenient.Lenient.{Lenient}

-- the result of decoding octets that must be a whole encoding of a value under BER
pub record BerRead {A : Type 0} (tag : Tag) (takes : A → EncodingRules → Head → List ℕ → Type 0)
    (levels : EncodingRules → ℕ) (allocates : Bool)
    (answers : Head → ReaderState → Result A Error → ReaderState → Type 0) (octets : List ℕ)
    (result : Result A Error) : Type 0 where
  -- the octets are an encoding of the value that is returned
  pub ok : IfOk result (λ v. Whole (ElementNext tag takes v) Ber octets)
  -- an encoding is decoded, unless an allocation fails
  pub complete : (v : A) → length octets < 2 ^ 32 → Whole (ElementNext tag takes v) Ber octets
      → element_levels levels Ber ≤ 64
      → SucceedsOrLacks (λ e. is_out_of_memory_kind (kind_of e)) allocates result
  -- the exact value or error
  pub exact : WholeAnswer Ber (ElementRead tag (λ e f. f ≡ e) answers) (λ e f. f ≡ e) octets
      result

-- octets are the DER encoding of a value
abbrev pub IsDerOf : {A : Type 0} → Tag → (A → Type 0) → (A → List ℕ) → List ℕ → Type 0
IsDerOf {A} tag valid contents octets =
    (v : A) × valid v × (octets ≡ element_octets tag (contents v))

-- an answer is true exactly if octets are DER, unless decoding them allocates
pub record SaysDerOf (allocates : Bool) (IsDer : List ℕ → Type 0) (octets : List ℕ) (is_der : Bool)
    : Type 0 where
  pub only : is_der ≡ true → IsDer octets
  pub all : allocates ≡ false → length octets < 2 ^ 32 → IsDer octets → is_der ≡ true

-- the value of an extension with these contents, and whether they are DER
pub record IsLenientOf {A : Type 0} (SaysDer : List ℕ → Bool → Type 0) (e : Extension)
    (found : Lenient A) : Type 0 where
  pub critical : (found.critical ≡ true) ↔ (e.critical.0.octets.now ≡ 255 ∷ [])
  pub is_der : SaysDer e.extn_value.octets.now found.is_der

-- the outcome for the only extension of a type: its contents are a value under BER, or they have an error
abbrev pub LenientAnswer : {A : Type 0} → (List ℕ → Result A Error → Type 0) → (List ℕ → Bool → Type 0) → Extension
    → Result (Option (Lenient A)) FindError → Type 0
LenientAnswer reads says e (Ok None) = ⊥
LenientAnswer reads says e (Ok (Some found)) =
    reads e.extn_value.octets.now (Ok found.value) × IsLenientOf says e found
LenientAnswer reads says e (Err Repeated) = ⊥
LenientAnswer reads says e (Err (Contents error)) = reads e.extn_value.octets.now (Err error)

-- the outcome for the extensions of a type
abbrev pub AllAnswer : {A : Type 0} → (List ℕ → Result A Error → Type 0) → (List ℕ → Bool → Type 0) → List Extension
    → Result (Option (Lenient A)) FindError → Type 0
AllAnswer reads says [] result = result ≡ Ok None
AllAnswer reads says (e ∷ []) result = LenientAnswer reads says e result
AllAnswer reads says (e ∷ f ∷ es) result = result ≡ Err Repeated

-- octets are the encodings of extensions; the outcome for those with this object identifier
pub record FindsLenient {A : Type 0} (valid : Extension → Type 0) (encoding : Extension → List ℕ)
    (reads : List ℕ → Result A Error → Type 0) (SaysDer : List ℕ → Bool → Type 0) (oid octets : List ℕ)
    (result : Result (Option (Lenient A)) FindError) : Type 0 where
  pub list : IsListOf valid encoding octets
  pub answer : AllAnswer reads SaysDer (of_type (λ e. e.extn_id.octets.now) oid list.items) result
