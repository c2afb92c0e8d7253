-- Universal types, and the tags of `der_base` for them.
use Rattle.std.proofs.Common.{◌≡◌, ℕ, Bool, true, false, Option, Some, None, is_some, option_and_then, List, [], ◌∷◌, refl, sym, ap, ◌∙◌, ⊎_elim}
use Rattle.std.proofs.lemmas.Bool.{cases_eq, eq-eqb, ne_eqb}
use Rattle.der_base.specs.Tag.{Label, label, label_of}
use Rattle.der_base.specs.declared.tag.Tag.{Tag}
use Rattle.der_base.specs.declared.tag.Tag.TheVariants as tags
use Rattle.ber.specs.Form.{allows}
use Rattle.ber.specs.Universal.{number_of, form_of, universal_types, universal_among, universal_at}
use Rattle.ber.specs.Der.{type_of, tag_of_type, has_tag}
use Rattle.ber.specs.declared.form.Form.{Form}
use Rattle.ber.specs.declared.form.Form.TheVariants.{Primitive, Constructed, Either}
use Rattle.ber.specs.declared.universal.Universal.{Universal}
use Rattle.ber.specs.declared.universal.Universal.TheVariants.{Boolean, Integer, BitString, OctetString, Null, ObjectIdentifier, ObjectDescriptor, External, Real, Enumerated, EmbeddedPdv, Utf8String, RelativeOid, Time, Sequence, Set, NumericString, PrintableString, TeletexString, VideotexString, Ia5String, UtcTime, GeneralizedTime, GraphicString, VisibleString, GeneralString, UniversalString, CharacterString, BmpString, Date, TimeOfDay, DateTime, Duration, OidIri, RelativeOidIri}

-- each type is found by its number
pub found_by_number : (u : Universal) → universal_at (number_of u) ≡ Some u
found_by_number Boolean = refl
found_by_number Integer = refl
found_by_number BitString = refl
found_by_number OctetString = refl
found_by_number Null = refl
found_by_number ObjectIdentifier = refl
found_by_number ObjectDescriptor = refl
found_by_number External = refl
found_by_number Real = refl
found_by_number Enumerated = refl
found_by_number EmbeddedPdv = refl
found_by_number Utf8String = refl
found_by_number RelativeOid = refl
found_by_number Time = refl
found_by_number Sequence = refl
found_by_number Set = refl
found_by_number NumericString = refl
found_by_number PrintableString = refl
found_by_number TeletexString = refl
found_by_number VideotexString = refl
found_by_number Ia5String = refl
found_by_number UtcTime = refl
found_by_number GeneralizedTime = refl
found_by_number GraphicString = refl
found_by_number VisibleString = refl
found_by_number GeneralString = refl
found_by_number UniversalString = refl
found_by_number CharacterString = refl
found_by_number BmpString = refl
found_by_number Date = refl
found_by_number TimeOfDay = refl
found_by_number DateTime = refl
found_by_number Duration = refl
found_by_number OidIri = refl
found_by_number RelativeOidIri = refl

number_among : (us : List Universal) (n : ℕ) (u : Universal) → universal_among us n ≡ Some u → number_of u ≡ n
number_among [] n u e = cc
number_among (v ∷ us) n u e =
    ⊎_elim
    (λ a. let f : Some v ≡ Some u = rw (eq-eqb n (number_of v) a) at e in let g : v ≡ u = cc in ap number_of (sym g) ∙ sym a)
    (λ a. number_among us n u (rw (ne_eqb n (number_of v) a) at e))
    (cases_eq n (number_of v))

-- a type has the number by which it is found
pub number_found : (n : ℕ) (u : Universal) → universal_at n ≡ Some u → number_of u ≡ n
number_found n u e = number_among universal_types n u e

-- the constructed bit of a type under the Distinguished Encoding Rules
abbrev pub der_bit : Form → Bool
der_bit Primitive = false
der_bit Constructed = true
der_bit Either = false

-- an allowed form that is no constructed string
pub der_bit_of : (f : Form) (b : Bool) → (allows f b ≡ false → ⊥) → (f ≡ Either → b ≡ true → ⊥) → b ≡ der_bit f
der_bit_of Primitive true wrong string = absurd (wrong refl)
der_bit_of Primitive false wrong string = refl
der_bit_of Constructed true wrong string = refl
der_bit_of Constructed false wrong string = absurd (wrong refl)
der_bit_of Either true wrong string = absurd (string refl refl)
der_bit_of Either false wrong string = refl

-- that bit is allowed
pub der_bit_allowed : (f : Form) → allows f (der_bit f) ≡ false → ⊥
der_bit_allowed Primitive e = cc
der_bit_allowed Constructed e = cc
der_bit_allowed Either e = cc

-- a tag among others
same_tag : (x t : Tag) (l : Label) → label x ≡ l → Some x ≡ Some t → label t ≡ l
same_tag x t l e f = let g : x ≡ t = cc in ap label (sym g) ∙ e

-- the label of the tag of a type
pub label_of_type : (u : Universal) (t : Tag) → tag_of_type u ≡ Some t → label t ≡ label_of 0 (der_bit (form_of u)) (number_of u)
label_of_type Boolean t e = same_tag tags.Boolean t (label tags.Boolean) refl e
label_of_type Integer t e = same_tag tags.Integer t (label tags.Integer) refl e
label_of_type BitString t e = same_tag tags.BitString t (label tags.BitString) refl e
label_of_type OctetString t e = same_tag tags.OctetString t (label tags.OctetString) refl e
label_of_type Null t e = same_tag tags.Null t (label tags.Null) refl e
label_of_type ObjectIdentifier t e = same_tag tags.ObjectIdentifier t (label tags.ObjectIdentifier) refl e
label_of_type ObjectDescriptor t e = cc
label_of_type External t e = cc
label_of_type Real t e = same_tag tags.Real t (label tags.Real) refl e
label_of_type Enumerated t e = same_tag tags.Enumerated t (label tags.Enumerated) refl e
label_of_type EmbeddedPdv t e = cc
label_of_type Utf8String t e = same_tag tags.Utf8String t (label tags.Utf8String) refl e
label_of_type RelativeOid t e = same_tag tags.RelativeOid t (label tags.RelativeOid) refl e
label_of_type Time t e = cc
label_of_type Sequence t e = same_tag tags.Sequence t (label tags.Sequence) refl e
label_of_type Set t e = same_tag tags.Set t (label tags.Set) refl e
label_of_type NumericString t e = same_tag tags.NumericString t (label tags.NumericString) refl e
label_of_type PrintableString t e = same_tag tags.PrintableString t (label tags.PrintableString) refl e
label_of_type TeletexString t e = same_tag tags.TeletexString t (label tags.TeletexString) refl e
label_of_type VideotexString t e = same_tag tags.VideotexString t (label tags.VideotexString) refl e
label_of_type Ia5String t e = same_tag tags.Ia5String t (label tags.Ia5String) refl e
label_of_type UtcTime t e = same_tag tags.UtcTime t (label tags.UtcTime) refl e
label_of_type GeneralizedTime t e = same_tag tags.GeneralizedTime t (label tags.GeneralizedTime) refl e
label_of_type GraphicString t e = cc
label_of_type VisibleString t e = same_tag tags.VisibleString t (label tags.VisibleString) refl e
label_of_type GeneralString t e = same_tag tags.GeneralString t (label tags.GeneralString) refl e
label_of_type UniversalString t e = cc
label_of_type CharacterString t e = cc
label_of_type BmpString t e = same_tag tags.BmpString t (label tags.BmpString) refl e
label_of_type Date t e = cc
label_of_type TimeOfDay t e = cc
label_of_type DateTime t e = cc
label_of_type Duration t e = cc
label_of_type OidIri t e = cc
label_of_type RelativeOidIri t e = cc

-- what is said of one type holds of another that is the same
same_type : (v u : Universal) (b : Bool) → b ≡ der_bit (form_of v) → Some v ≡ Some u → b ≡ der_bit (form_of u)
same_type v u b e f = let g : v ≡ u = cc in e ∙ ap (λ x. der_bit (form_of x)) g

-- the form of a universal tag is that of its type
pub form_of_tag : (t : Tag) (u : Universal) → type_of (label t) ≡ Some u → (label t).constructed ≡ der_bit (form_of u)
form_of_tag tags.Boolean u e = same_type Boolean u false refl e
form_of_tag tags.Integer u e = same_type Integer u false refl e
form_of_tag tags.BitString u e = same_type BitString u false refl e
form_of_tag tags.OctetString u e = same_type OctetString u false refl e
form_of_tag tags.Null u e = same_type Null u false refl e
form_of_tag tags.ObjectIdentifier u e = same_type ObjectIdentifier u false refl e
form_of_tag tags.Real u e = same_type Real u false refl e
form_of_tag tags.Enumerated u e = same_type Enumerated u false refl e
form_of_tag tags.Utf8String u e = same_type Utf8String u false refl e
form_of_tag tags.RelativeOid u e = same_type RelativeOid u false refl e
form_of_tag tags.Sequence u e = same_type Sequence u true refl e
form_of_tag tags.Set u e = same_type Set u true refl e
form_of_tag tags.NumericString u e = same_type NumericString u false refl e
form_of_tag tags.PrintableString u e = same_type PrintableString u false refl e
form_of_tag tags.TeletexString u e = same_type TeletexString u false refl e
form_of_tag tags.VideotexString u e = same_type VideotexString u false refl e
form_of_tag tags.Ia5String u e = same_type Ia5String u false refl e
form_of_tag tags.UtcTime u e = same_type UtcTime u false refl e
form_of_tag tags.GeneralizedTime u e = same_type GeneralizedTime u false refl e
form_of_tag tags.VisibleString u e = same_type VisibleString u false refl e
form_of_tag tags.GeneralString u e = same_type GeneralString u false refl e
form_of_tag tags.BmpString u e = same_type BmpString u false refl e
form_of_tag (tags.Application b n) u e = cc
form_of_tag (tags.ContextSpecific b n) u e = cc
form_of_tag (tags.Private b n) u e = cc

-- a tag of `der_base` has a label of one
pub tag_has : (t : Tag) → has_tag (label t) ≡ true
tag_has tags.Boolean = refl
tag_has tags.Integer = refl
tag_has tags.BitString = refl
tag_has tags.OctetString = refl
tag_has tags.Null = refl
tag_has tags.ObjectIdentifier = refl
tag_has tags.Real = refl
tag_has tags.Enumerated = refl
tag_has tags.Utf8String = refl
tag_has tags.RelativeOid = refl
tag_has tags.Sequence = refl
tag_has tags.Set = refl
tag_has tags.NumericString = refl
tag_has tags.PrintableString = refl
tag_has tags.TeletexString = refl
tag_has tags.VideotexString = refl
tag_has tags.Ia5String = refl
tag_has tags.UtcTime = refl
tag_has tags.GeneralizedTime = refl
tag_has tags.VisibleString = refl
tag_has tags.GeneralString = refl
tag_has tags.BmpString = refl
tag_has (tags.Application b n) = refl
tag_has (tags.ContextSpecific b n) = refl
tag_has (tags.Private b n) = refl

-- a label of class 0 that has a tag has a type with one
pub type_has : (o : Option Universal) → is_some (option_and_then tag_of_type o) ≡ true → (u : Universal) × (t : Tag) × (o ≡ Some u) × (tag_of_type u ≡ Some t)
type_has None e = cc
type_has (Some u) e = go (tag_of_type u) refl e
  where
    go : (p : Option Tag) → tag_of_type u ≡ p → is_some p ≡ true → (v : Universal) × (t : Tag) × (Some u ≡ Some v) × (tag_of_type v ≡ Some t)
    go None f g = cc
    go (Some t) f g = (u, t, refl, f)
