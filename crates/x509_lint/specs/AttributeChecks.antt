-- Checks of the attributes of names (RFC 5280, 4.1.2.4 and A.1): how many characters a value has
-- (`HasLengthOfType`), which (`HasCharactersOfTag`), and of which type (`HasTypeOfAttribute`).
use Rattle.std.specs.Prelude.{◌≡◌, ◌<◌, ◌≤◌, ◌/◌, ◌==◌, ◌||◌, ◌⊎◌, ℕ, Bool, false, true, nat_lt}
use Rattle.std.specs.Prelude.{List, [], ◌∷◌, length, count_by, Option, Some, None, if◌then◌else◌}
use Rattle.der.specs.Prelude.{Tag, BmpString, Ia5String, NumericString, PrintableString}
use Rattle.der.specs.Prelude.{TeletexString, Utf8String, VisibleString}
use Rattle.std.specs.Str.{is_utf8}
use Rattle.der_asn1.specs.Alphabets.{bmp_form, numeric_form, visible_form}
use Rattle.der_asn1.specs.AnyRef.{any_contents}
use Rattle.der_asn1.specs.Arcs.{oid_octets}
use Rattle.der_asn1.specs.Forms.{ia5_form, printable_form}
use Rattle.x509.specs.declared.asn1.attribute_type_and_value.AttributeTypeAndValue.{AttributeTypeAndValue}

-- the identifier 2.5.4.n
abbrev pub id_at : ℕ → List ℕ
id_at n = oid_octets (2 ∷ 5 ∷ 4 ∷ n ∷ [])

-- emailAddress, 1.2.840.113549.1.9.1
abbrev pub email_address : List ℕ
email_address = oid_octets (1 ∷ 2 ∷ 840 ∷ 113549 ∷ 1 ∷ 9 ∷ 1 ∷ [])

-- an octet that continues a character of UTF-8, 0x80 to 0xBF, begins none
abbrev pub begins_character : ℕ → Bool
begins_character o = nat_lt o 128 || nat_lt 191 o

-- the number of characters of a text with this tag: a BMPString has two octets for each; other
-- strings than a UTF8String have one
abbrev pub character_count : Tag → List ℕ → ℕ
character_count Utf8String octets = count_by begins_character octets
character_count BmpString octets = length octets / 2
character_count _ octets = length octets

-- the least and the most characters of an attribute 2.5.4.n, if A.1 has such bounds: commonName,
-- serialNumber, organizationName, organizationalUnitName and title; localityName,
-- stateOrProvinceName and pseudonym; surname, name, givenName, initials and generationQualifier;
-- countryName
abbrev pub bounds_of : ℕ → Option (ℕ × ℕ)
bounds_of n =
    if (n == 3) || (n == 5) || (n == 10) || (n == 11) || (n == 12) then Some (1, 64)
    else if (n == 7) || (n == 8) || (n == 65) then Some (1, 128)
    else if (n == 4) || (n == 41) || (n == 42) || (n == 43) || (n == 44) then Some (1, 32768)
    else if n == 6 then Some (2, 2)
    else None

-- a number is within bounds, if there are bounds
abbrev pub IsWithin : Option (ℕ × ℕ) → ℕ → Type 0
IsWithin None n = Unit {0}
IsWithin (Some bounds) n = (bounds.0 ≤ n) × (n ≤ bounds.1)

-- A.1 allows this number of characters for an attribute of this type
abbrev pub AllowsLength : List ℕ → ℕ → Type 0
AllowsLength id n =
    ((arc : ℕ) → arc < 128 → id ≡ id_at arc → IsWithin (bounds_of arc) n)
    × (id ≡ email_address → IsWithin (Some (1, 255)) n)

-- the value of an attribute has as many characters as A.1 allows for its type
abbrev pub HasLengthOfType : AttributeTypeAndValue → Type 0
HasLengthOfType v =
    AllowsLength v.oid.octets.now (character_count v.value.tag (any_contents v.value))

-- octets are characters of the string type with this tag (X.680 41)
abbrev pub AreCharactersOf : Tag → List ℕ → Type 0
AreCharactersOf PrintableString octets = printable_form octets ≡ true
AreCharactersOf Ia5String octets = ia5_form octets ≡ true
AreCharactersOf NumericString octets = numeric_form octets ≡ true
AreCharactersOf VisibleString octets = visible_form octets ≡ true
AreCharactersOf BmpString octets = bmp_form octets ≡ true
AreCharactersOf Utf8String octets = is_utf8 octets ≡ true
AreCharactersOf _ octets = Unit {0}

-- the value of an attribute has only characters of the type that its tag names
abbrev pub HasCharactersOfTag : AttributeTypeAndValue → Type 0
HasCharactersOfTag v = AreCharactersOf v.value.tag (any_contents v.value)

-- domainComponent, 0.9.2342.19200300.100.1.25
abbrev pub domain_component : List ℕ
domain_component = 9 ∷ 146 ∷ 38 ∷ 137 ∷ 147 ∷ 242 ∷ 44 ∷ 100 ∷ 1 ∷ 25 ∷ []

-- a DirectoryString: a TeletexString, a PrintableString, a UTF8String or a BMPString; a
-- UniversalString is not decoded
abbrev pub is_directory_tag : Tag → Bool
is_directory_tag TeletexString = true
is_directory_tag PrintableString = true
is_directory_tag Utf8String = true
is_directory_tag BmpString = true
is_directory_tag _ = false

abbrev pub is_printable_tag : Tag → Bool
is_printable_tag PrintableString = true
is_printable_tag _ = false

abbrev pub is_ia5_tag : Tag → Bool
is_ia5_tag Ia5String = true
is_ia5_tag _ = false

-- the types that A.1 gives an attribute 2.5.4.n: a PrintableString for serialNumber, countryName and
-- dnQualifier; a DirectoryString for commonName, surname, localityName, stateOrProvinceName,
-- organizationName, organizationalUnitName, title, name, givenName, initials, generationQualifier
-- and pseudonym
abbrev pub allows_tag : ℕ → Tag → Bool
allows_tag n t =
    if (n == 5) || (n == 6) || (n == 46) then is_printable_tag t
    else if (n == 3) || (n == 4) || (n == 7) || (n == 8) || (n == 10) || (n == 11) || (n == 12)
    || (n == 41) || (n == 42) || (n == 43) || (n == 44) || (n == 65) then is_directory_tag t
    else true

-- A.1 allows a value with this tag for an attribute of this type: domainComponent and emailAddress
-- are IA5Strings
abbrev pub AllowsType : List ℕ → Tag → Type 0
AllowsType id t =
    ((arc : ℕ) → arc < 128 → id ≡ id_at arc → allows_tag arc t ≡ true)
    × ((id ≡ email_address) ⊎ (id ≡ domain_component) → is_ia5_tag t ≡ true)

-- the value of an attribute has a type that A.1 allows for it
abbrev pub HasTypeOfAttribute : AttributeTypeAndValue → Type 0
HasTypeOfAttribute v = AllowsType v.oid.octets.now v.value.tag
