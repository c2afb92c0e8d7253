-- The two parts of a word determine its tag.
use Rattle.std.proofs.Common.{◌≡◌, ◌≢◌, ℕ, ◌+◌, ◌*◌, ◌/◌, ◌%◌, ◌<◌, ◌≤◌, Bool, true, false, nat_lt, Some, if◌then◌else◌, refl, ap, ◌∙◌, ⊎_elim, arith}
use Rattle.std.proofs.lemmas.Bool.{cases_lt, cases_eq, lt-ltb, le-ltb, eq-eqb, ne_eqb}
use Rattle.der_base.specs.Tag.{label, leading_octet, is_constructed, other_tag}
use Rattle.der_base.specs.declared.tag.Tag.{Tag}
use Rattle.der_base.specs.declared.tag.Tag.TheVariants.{Boolean, Integer, BitString, OctetString, Null, ObjectIdentifier, Real, Enumerated, Utf8String, RelativeOid, Sequence, Set, NumericString, PrintableString, TeletexString, VideotexString, Ia5String, UtcTime, GeneralizedTime, VisibleString, GeneralString, BmpString, Application, ContextSpecific, Private}
use Rattle.der_base.proofs.TagLemmas.{constructed_bit, same_label, same_parts, label_other, class_small}
use Rattle.der_c_core.specs.TagWord.{tag_octet, long_number, tag_word, said_tag, IsTagWord}

-- the class, form and low bits of an octet
octet_class : (b : Bool) (k low : ℕ) → low < 32 → (64 * k + constructed_bit b + low) / 64 ≡ k
octet_class true k low h = omega arith
octet_class false k low h = omega arith

octet_low : (b : Bool) (k low : ℕ) → low < 32 → (64 * k + constructed_bit b + low) % 32 ≡ low
octet_low true k low h = omega arith
octet_low false k low h = omega arith

octet_bit : (b : Bool) (k low : ℕ) → low < 32 → is_constructed (64 * k + constructed_bit b + low) ≡ b
octet_bit true k low h = eq-eqb ((64 * k + 32 + low) / 32 % 2) 1 (omega arith)
octet_bit false k low h = ne_eqb ((64 * k + 0 + low) / 32 % 2) 1 (omega arith)

octet_bounds : (b : Bool) (k low : ℕ) → 1 ≤ k → k < 4 → low < 32 → (64 ≤ 64 * k + constructed_bit b + low) × (64 * k + constructed_bit b + low < 256)
octet_bounds true k low p q h = (omega arith, omega arith)
octet_bounds false k low p q h = (omega arith, omega arith)

-- a tag of a class other than universal is determined by its first octet and its number
other_found : (t : Tag) (low : ℕ) → low < 32 → (label t).class ≢ 0 → other_tag (leading_octet (label t) low) (label t).number ≡ t
other_found t low small other =
    let b = (label t).constructed in
    let k = (label t).class in
    let bounds = octet_bounds b k low (omega arith) (class_small t) small in
    same_label (other_tag (leading_octet (label t) low) (label t).number) t
    (label_other (leading_octet (label t) low) (label t).number bounds.0 bounds.1
    ∙ same_parts _ (label t) (octet_class b k low small) (octet_bit b k low small) refl)

-- a universal tag is determined by its octet
universal_said : (t : Tag) → (label t).class ≡ 0 → said_tag (tag_octet t) (long_number t) ≡ Some t
universal_said Boolean h = refl
universal_said Integer h = refl
universal_said BitString h = refl
universal_said OctetString h = refl
universal_said Null h = refl
universal_said ObjectIdentifier h = refl
universal_said Real h = refl
universal_said Enumerated h = refl
universal_said Utf8String h = refl
universal_said RelativeOid h = refl
universal_said Sequence h = refl
universal_said Set h = refl
universal_said NumericString h = refl
universal_said PrintableString h = refl
universal_said TeletexString h = refl
universal_said VideotexString h = refl
universal_said Ia5String h = refl
universal_said UtcTime h = refl
universal_said GeneralizedTime h = refl
universal_said VisibleString h = refl
universal_said GeneralString h = refl
universal_said BmpString h = refl
universal_said (Application b n) h = absurd (omega arith)
universal_said (ContextSpecific b n) h = absurd (omega arith)
universal_said (Private b n) h = absurd (omega arith)

-- a tag of another class is determined by a first octet, and by a number that is in it or after it
said_other : (octet long : ℕ) → 64 ≤ octet → said_tag octet long ≡ Some (other_tag octet (if nat_lt (octet % 32) 31 then octet % 32 else long))
said_other octet long high = rw (le-ltb octet 64 high)

other_said : (t : Tag) → (label t).class ≢ 0 → said_tag (tag_octet t) (long_number t) ≡ Some t
other_said t other = ⊎_elim small large (cases_lt (label t).number 31)
  where
    small : (label t).number < 31 → said_tag (tag_octet t) (long_number t) ≡ Some t
    small h =
        let o = leading_octet (label t) (label t).number in
        let low : o % 32 ≡ (label t).number = octet_low (label t).constructed (label t).class (label t).number (omega arith) in
        let bounds = octet_bounds (label t).constructed (label t).class (label t).number (omega arith) (class_small t) (omega arith) in
        let inside : o % 32 < 31 = omega (arith, low) in
        rw (lt-ltb (label t).number 31 h)
        (said_other o 0 bounds.0
        ∙ rw (lt-ltb (o % 32) 31 inside) (ap (λ n. Some (other_tag o n)) low)
        ∙ ap Some (other_found t (label t).number (omega arith) other))

    large : 31 ≤ (label t).number → said_tag (tag_octet t) (long_number t) ≡ Some t
    large h =
        let o = leading_octet (label t) 31 in
        let low : o % 32 ≡ 31 = octet_low (label t).constructed (label t).class 31 (omega arith) in
        let bounds = octet_bounds (label t).constructed (label t).class 31 (omega arith) (class_small t) (omega arith) in
        let outside : 31 ≤ o % 32 = omega (arith, low) in
        rw (le-ltb (label t).number 31 h)
        (said_other o (label t).number bounds.0
        ∙ rw (le-ltb (o % 32) 31 outside) refl
        ∙ ap Some (other_found t 31 (omega arith) other))

-- the parts of the word of a tag determine the tag
pub tag_said : (t : Tag) → said_tag (tag_octet t) (long_number t) ≡ Some t
tag_said t = ⊎_elim (universal_said t) (other_said t) (cases_eq (label t).class 0)

octet_below : (b : Bool) (k low : ℕ) → k < 4 → low < 32 → 64 * k + constructed_bit b + low < 256
octet_below true k low p h = omega arith
octet_below false k low p h = omega arith

-- the first octet is below 256, so a word splits into its two parts
pub tag_octet_small : (t : Tag) → tag_octet t < 256
tag_octet_small t = ⊎_elim
    (λ a. rw (lt-ltb (label t).number 31 a) (octet_below (label t).constructed (label t).class (label t).number (class_small t) (omega arith)))
    (λ a. rw (le-ltb (label t).number 31 a) (octet_below (label t).constructed (label t).class 31 (class_small t) (omega arith)))
    (cases_lt (label t).number 31)

-- the two parts of the word of a tag
pub word_octet : (word : ℕ) (t : Tag) → tag_word t ≡ word → word % 256 ≡ tag_octet t
word_octet word t e = let h = tag_octet_small t in omega arith

pub word_number : (word : ℕ) (t : Tag) → tag_word t ≡ word → word / 256 ≡ long_number t
word_number word t e = let h = tag_octet_small t in omega arith

-- the two parts of the word of a tag determine the tag
pub word_said : (word : ℕ) (t : Tag) → IsTagWord word t → said_tag (word % 256) (word / 256) ≡ Some t
word_said word t is =
    ap (λ o. said_tag o (word / 256)) (word_octet word t is.1) ∙ ap (said_tag (tag_octet t)) (word_number word t is.1) ∙ tag_said t
