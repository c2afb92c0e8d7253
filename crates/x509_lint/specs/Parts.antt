-- What tests of single elements say (`PartKeeps`).
use Rattle.std.specs.Prelude.{◌≡◌, ◌≢◌, ◌⊎◌, ◌≤◌, ◌+◌, ◌*◌, ℕ, Bool, false, true, List, [], ◌∷◌, length, slice_index}
use Rattle.der.specs.Prelude.{BmpString, Boolean, GeneralizedTime, Ia5String, ObjectIdentifier, Tag}
use Rattle.der.specs.Prelude.{Utf8String, VisibleString}
use Rattle.der_asn1.specs.Arcs.{oid_octets}
use Rattle.der_asn1.specs.Forms.{oid_form}
use Rattle.der_asn1.specs.Integer.{is_negative}
use Rattle.x509_lint.specs.Elements.{IsElement}
use Rattle.x509_names.specs.UriSyntax.{IsUri}
use Rattle.x509_lint.specs.AttributeChecks.{character_count}
use Rattle.x509_lint.specs.Bases.{BaseKeeps}
use Rattle.x509_lint.specs.GeneralNameForms.{FormKeeps}
use Rattle.x509_lint.specs.Identifiers.{identifier_octets}
use Rattle.x509_lint.specs.declared.identifier.Identifier.TheVariants.{CpsPointer, UserNotice}
use Rattle.x509_lint.specs.declared.part_test.PartTest.{PartTest}
use Rattle.x509_lint.specs.declared.part_test.PartTest.TheVariants as part

-- the identifier anyPolicy, 2.5.29.32.0 (RFC 5280, 4.2.1.4)
abbrev pub any_policy : List ℕ
any_policy = oid_octets (2 ∷ 5 ∷ 29 ∷ 32 ∷ 0 ∷ [])

-- the string types of a DisplayText (4.2.1.4)
abbrev pub is_display_tag : Tag → Bool
is_display_tag Ia5String = true
is_display_tag VisibleString = true
is_display_tag BmpString = true
is_display_tag Utf8String = true
is_display_tag _ = false

-- the first four octets are the digits of a year from 2050 on: each is 48 more than its digit
abbrev pub IsFrom2050 : List ℕ → Type 0
IsFrom2050 octets =
    (4 ≤ length octets)
    × (55378 ≤ slice_index octets 0 * 1000 + slice_index octets 1 * 100 + slice_index octets 2 * 10
    + slice_index octets 3)

-- the octets are one element
abbrev pub IsSingle : List ℕ → Type 0
IsSingle octets = (t : Tag) × (c : List ℕ) × IsElement octets t c

-- an element with this tag and these contents keeps what a test demands
abbrev pub PartKeeps : PartTest → Tag → List ℕ → Type 0
PartKeeps (part.NotTagged u) t c = t ≢ u
PartKeeps (part.NeitherTagged u w) t c = (t ≢ u) × (t ≢ w)
PartKeeps part.NotAnyPolicy t c = c ≢ any_policy
PartKeeps part.NotNegative t c = (t ≡ Boolean) ⊎ (is_negative c ≡ false)
PartKeeps part.NotEmpty t c = c ≢ []
PartKeeps part.Identifier t c = (t ≡ ObjectIdentifier) × (oid_form c ≡ true)
PartKeeps part.Single t c = IsSingle c
PartKeeps (part.Form rule) t c = FormKeeps rule t c
PartKeeps (part.Tagged u) t c = t ≡ u
PartKeeps (part.SingleIn u) t c = t ≡ u → IsSingle c
PartKeeps (part.Other i) t c = c ≢ identifier_octets i
PartKeeps part.Qualifier t c =
    t ≡ ObjectIdentifier → (c ≡ identifier_octets CpsPointer) ⊎ (c ≡ identifier_octets UserNotice)
PartKeeps part.NoticeText t c =
    is_display_tag t ≡ true → (1 ≤ character_count t c) × (character_count t c ≤ 200)
PartKeeps part.Pointer t c = t ≡ Ia5String → IsUri c
PartKeeps (part.Base rule) t c = BaseKeeps rule t c
PartKeeps part.LateTime t c = t ≡ GeneralizedTime → IsFrom2050 c
PartKeeps part.NotRemoved t c = c ≢ 10 ∷ 1 ∷ 8 ∷ []
