-- The contents of string types whose characters are all of ASCII, as characters in UTF-8.
use Rattle.std.proofs.Common.{◌≡◌, ◌<◌, ◌||◌, ◌&&◌, ◌==◌, ℕ, zero, suc, Bool, true, false, List, [], ◌∷◌, nat_lt, if◌then◌else◌, refl, arith}
use Rattle.std.specs.Str.{IsAscii, IsUtf8, is_utf8}
use Rattle.std.proofs.lemmas.Bool.{eqb-true, false≢true, ltb-true}
use Rattle.std.proofs.lemmas.Str.{IsUtf8-from_ascii, IsUtf8-from_is_utf8}
use Rattle.der_asn1.specs.Forms.{ia5_form, is_printable, printable_form}
use Rattle.der_asn1.specs.Alphabets.{numeric_form, visible_form}

pub utf8_is_text : (octets : List ℕ) → is_utf8 octets ≡ true → IsUtf8 octets
utf8_is_text octets is = IsUtf8-from_is_utf8 octets is

-- both parts of a test that holds
both_hold : (b c : Bool) → (if b then c else false) ≡ true → (b ≡ true) × (c ≡ true)
both_hold true c is = (refl, is)
both_hold false c is = absurd (false≢true is)

-- one of two tests that holds
one_holds : {A : Type 0} (b c : Bool) → (b || c) ≡ true → (b ≡ true → A) → (c ≡ true → A) → A
one_holds true c is first second = first refl
one_holds false c is first second = second is

both_of : (b c : Bool) → (b && c) ≡ true → c ≡ true
both_of true c is = is
both_of false c is = absurd (false≢true is)

-- an octet that is below a number of at most 128 is one of ASCII
below : (o n : ℕ) → n < 129 → nat_lt o n ≡ true → o < 128
below o n small is = Prim.omega (arith, ltb-true o n is)

between : (low o n : ℕ) → n < 129 → (nat_lt low o && nat_lt o n) ≡ true → o < 128
between low o n small is = below o n small (both_of (nat_lt low o) (nat_lt o n) is)

-- an octet of ASCII in front of others
ascii_with : (o : ℕ) (os : List ℕ) → o < 128 → IsAscii os → IsAscii (o ∷ os)
ascii_with o os low is zero = low
ascii_with o os low is (suc i) = is i

ascii_nil : IsAscii []
ascii_nil i = Prim.omega arith

ia5_is_ascii : (octets : List ℕ) → ia5_form octets ≡ true → IsAscii octets
ia5_is_ascii [] is = ascii_nil
ia5_is_ascii (o ∷ os) is = let parts = both_hold (nat_lt o 128) (ia5_form os) is in
    ascii_with o os (ltb-true o 128 parts.0) (ia5_is_ascii os parts.1)

pub ia5_is_text : (octets : List ℕ) → ia5_form octets ≡ true → IsUtf8 octets
ia5_is_text octets is = IsUtf8-from_ascii octets (ia5_is_ascii octets is)

visible_is_ascii : (octets : List ℕ) → visible_form octets ≡ true → IsAscii octets
visible_is_ascii [] is = ascii_nil
visible_is_ascii (o ∷ os) is =
    let parts = both_hold (nat_lt 31 o && nat_lt o 127) (visible_form os) is in
    ascii_with o os (between 31 o 127 (Prim.omega arith) parts.0) (visible_is_ascii os parts.1)

pub visible_is_text : (octets : List ℕ) → visible_form octets ≡ true → IsUtf8 octets
visible_is_text octets is = IsUtf8-from_ascii octets (visible_is_ascii octets is)

-- an octet that equals one of ASCII
equal : (o n : ℕ) → n < 128 → (o == n) ≡ true → o < 128
equal o n small is = Prim.omega (arith, eqb-true o n is)

numeric_octet : (o : ℕ) → (nat_lt 47 o && nat_lt o 58 || (o == 32)) ≡ true → o < 128
numeric_octet o is = one_holds (nat_lt 47 o && nat_lt o 58) (o == 32) is
    (between 47 o 58 (Prim.omega arith)) (equal o 32 (Prim.omega arith))

numeric_is_ascii : (octets : List ℕ) → numeric_form octets ≡ true → IsAscii octets
numeric_is_ascii [] is = ascii_nil
numeric_is_ascii (o ∷ os) is =
    let parts = both_hold (nat_lt 47 o && nat_lt o 58 || (o == 32)) (numeric_form os) is in
    ascii_with o os (numeric_octet o parts.0) (numeric_is_ascii os parts.1)

pub numeric_is_text : (octets : List ℕ) → numeric_form octets ≡ true → IsUtf8 octets
numeric_is_text octets is = IsUtf8-from_ascii octets (numeric_is_ascii octets is)

printable_octet : (o : ℕ) → is_printable o ≡ true → o < 128
printable_octet o is =
    one_holds _ (o == 63) is (λ is. one_holds _ (o == 61) is (λ is. one_holds _ (o == 58) is (λ is.
    one_holds _ (nat_lt 42 o && nat_lt o 48) is (λ is.
    one_holds _ (nat_lt 38 o && nat_lt o 42) is (λ is. one_holds _ (o == 32) is (λ is.
    one_holds _ (nat_lt 47 o && nat_lt o 58) is (λ is.
    one_holds (nat_lt 64 o && nat_lt o 91) (nat_lt 96 o && nat_lt o 123) is
    (between 64 o 91 (Prim.omega arith)) (between 96 o 123 (Prim.omega arith)))
    (between 47 o 58 (Prim.omega arith))) (equal o 32 (Prim.omega arith)))
    (between 38 o 42 (Prim.omega arith))) (between 42 o 48 (Prim.omega arith)))
    (equal o 58 (Prim.omega arith))) (equal o 61 (Prim.omega arith)))
    (equal o 63 (Prim.omega arith))

printable_is_ascii : (octets : List ℕ) → printable_form octets ≡ true → IsAscii octets
printable_is_ascii [] is = ascii_nil
printable_is_ascii (o ∷ os) is =
    let parts = both_hold (is_printable o) (printable_form os) is in
    ascii_with o os (printable_octet o parts.0) (printable_is_ascii os parts.1)

pub printable_is_text : (octets : List ℕ) → printable_form octets ≡ true → IsUtf8 octets
printable_is_text octets is = IsUtf8-from_ascii octets (printable_is_ascii octets is)
