-- Tags and their octets: the content of an octet, and that no tag is a proper prefix of another.
use Rattle.std.proofs.Common.{◌≡◌, ◌≢◌, ℕ, ◌+◌, ◌*◌, ◌/◌, ◌%◌, ◌^◌, ◌<◌, ◌≤◌, Bool, true, false, nat_eq, nat_lt, Option, Some, None, if◌then◌else◌, List, [], ◌∷◌, ◌++◌, refl, sym, ap, ◌∙◌, subst, ⊎_elim, arith}
use Rattle.std.proofs.lemmas.Bool.{cases_lt, cases_eq, lt-ltb, le-ltb, ne_eqb, eq-eqb, eqb-true, eqb-false}
use Rattle.std.proofs.lemmas.Int.Digits.{all_below_base_digits_of}
use Rattle.std.specs.Int.Digits.{digits_of, AllBelowBase}
use Rattle.der_base.specs.Length.{digits}
use Rattle.der_base.specs.Tag.{Label, label_of, label, leading_octet, tag_octets, universal_rows, tag_among, universal_tag, is_constructed, tag_number, other_tag, continuation_octets}
use Rattle.der_base.specs.declared.tag.Tag.{Tag}
use Rattle.der_base.specs.declared.tag.Tag.TheVariants.{Boolean, Integer, BitString, OctetString, Null, ObjectIdentifier, Real, Enumerated, Utf8String, RelativeOid, Sequence, Set, NumericString, PrintableString, TeletexString, VideotexString, Ia5String, UtcTime, GeneralizedTime, VisibleString, GeneralString, BmpString, Application, ContextSpecific, Private}
use Rattle.der_base.proofs.DigitLemmas.{digits_positive, number_front, continued_octets}

-- the value of the constructed bit in a first octet
abbrev pub constructed_bit : Bool → ℕ
constructed_bit constructed = if constructed then 32 else 0

-- the octets that encode a label
abbrev pub label_octets : Label → List ℕ
label_octets l =
    if nat_lt l.number 31 then leading_octet l l.number ∷ []
    else leading_octet l 31 ∷ continuation_octets (digits 128 l.number)

-- a number below 31 is in the first octet
pub label_small : (l : Label) → l.number < 31 → label_octets l ≡ leading_octet l l.number ∷ []
label_small l h = rw (lt-ltb l.number 31 h)

-- a number from 31 on follows the first octet
pub label_large : (l : Label) → 31 ≤ l.number → label_octets l ≡ leading_octet l 31 ∷ continuation_octets (digits 128 l.number)
label_large l h = rw (le-ltb l.number 31 h)

-- an octet determines the class, the constructed bit and the five low bits
pub octet_parts : (l m : Label) (i j : ℕ) → i < 32 → j < 32 → leading_octet l i ≡ leading_octet m j → (l.class ≡ m.class) × (l.constructed ≡ m.constructed) × (i ≡ j)
octet_parts l m i j = go l.constructed m.constructed l.class m.class i j
  where
    go : (b c : Bool) (k l m n : ℕ) → m < 32 → n < 32 → 64 * k + constructed_bit b + m ≡ 64 * l + constructed_bit c + n → (k ≡ l) × (b ≡ c) × (m ≡ n)
    go true true k l m n p q e = (omega arith, refl, omega arith)
    go false false k l m n p q e = (omega arith, refl, omega arith)
    go true false k l m n p q e = absurd (omega arith)
    go false true k l m n p q e = absurd (omega arith)

-- labels with equal fields are equal
pub same_parts : (l m : Label) → l.class ≡ m.class → l.constructed ≡ m.constructed → l.number ≡ m.number → l ≡ m
same_parts l m a b c = ap (λ k. label_of k l.constructed l.number) a ∙ ap (λ k. label_of m.class k l.number) b ∙ ap (label_of m.class m.constructed) c

-- no encoded label is a proper prefix of another
pub label_front : (l m : Label) (x y : List ℕ) → label_octets l ++ x ≡ label_octets m ++ y → (l ≡ m) × (x ≡ y)
label_front l m x y e =
    ⊎_elim
    (λ a. ⊎_elim
    (λ b. let f : leading_octet l l.number ∷ x ≡ leading_octet m m.number ∷ y = ap (λ z. z ++ x) (sym (label_small l a)) ∙ e ∙ ap (λ z. z ++ y) (label_small m b) in
    let p = octet_parts l m l.number m.number (omega arith) (omega arith) (cc) in (same_parts l m p.0 p.1 p.2, cc))
    (λ b. let f : leading_octet l l.number ∷ x ≡ leading_octet m 31 ∷ (continuation_octets (digits 128 m.number) ++ y) = ap (λ z. z ++ x) (sym (label_small l a)) ∙ e ∙ ap (λ z. z ++ y) (label_large m b) in
    let p = octet_parts l m l.number 31 (omega arith) (omega arith) (cc) in absurd (omega (arith, p.2)))
    (cases_lt m.number 31))
    (λ a. ⊎_elim
    (λ b. let f : leading_octet l 31 ∷ (continuation_octets (digits 128 l.number) ++ x) ≡ leading_octet m m.number ∷ y = ap (λ z. z ++ x) (sym (label_large l a)) ∙ e ∙ ap (λ z. z ++ y) (label_small m b) in
    let p = octet_parts l m 31 m.number (omega arith) (omega arith) (cc) in absurd (omega (arith, p.2)))
    (λ b. let f : leading_octet l 31 ∷ (continuation_octets (digits 128 l.number) ++ x) ≡ leading_octet m 31 ∷ (continuation_octets (digits 128 m.number) ++ y) = ap (λ z. z ++ x) (sym (label_large l a)) ∙ e ∙ ap (λ z. z ++ y) (label_large m b) in
    let p = octet_parts l m 31 31 (omega arith) (omega arith) (cc) in
    let s = number_front l.number m.number x y (omega arith) (omega arith) (cc) in
    (same_parts l m p.0 p.1 s.0, s.1))
    (cases_lt m.number 31))
    (cases_lt l.number 31)

-- the tag with this label, if there is one
tag_of : Label → Option Tag
tag_of l =
    if nat_eq l.class 0 then universal_tag (constructed_bit l.constructed + l.number)
    else if nat_eq l.class 1 then Some (Application l.constructed (tag_number l.number))
    else if nat_eq l.class 2 then Some (ContextSpecific l.constructed (tag_number l.number))
    else Some (Private l.constructed (tag_number l.number))

tag_of_label : (t : Tag) → tag_of (label t) ≡ Some t
unfolding tag_of
tag_of_label Boolean = refl
tag_of_label Integer = refl
tag_of_label BitString = refl
tag_of_label OctetString = refl
tag_of_label Null = refl
tag_of_label ObjectIdentifier = refl
tag_of_label Real = refl
tag_of_label Enumerated = refl
tag_of_label Utf8String = refl
tag_of_label RelativeOid = refl
tag_of_label Sequence = refl
tag_of_label Set = refl
tag_of_label NumericString = refl
tag_of_label PrintableString = refl
tag_of_label TeletexString = refl
tag_of_label VideotexString = refl
tag_of_label Ia5String = refl
tag_of_label UtcTime = refl
tag_of_label GeneralizedTime = refl
tag_of_label VisibleString = refl
tag_of_label GeneralString = refl
tag_of_label BmpString = refl
tag_of_label (Application b n) = refl
tag_of_label (ContextSpecific b n) = refl
tag_of_label (Private b n) = refl

-- a label belongs to at most one tag
pub same_label : (t u : Tag) → label t ≡ label u → t ≡ u
same_label t u e = let f : Some t ≡ Some u = sym (tag_of_label t) ∙ ap tag_of e ∙ tag_of_label u in cc

-- no encoded tag is a proper prefix of another
pub tag_front : (t u : Tag) (x y : List ℕ) → tag_octets t ++ x ≡ tag_octets u ++ y → (t ≡ u) × (x ≡ y)
tag_front t u x y e = let r = label_front (label t) (label u) x y e in (same_label t u r.0, r.1)

-- octet `0x24` begins no tag
pub no_segments : (t : Tag) (x y : List ℕ) → tag_octets t ++ x ≡ 36 ∷ y → ⊥
unfolding tag_of
no_segments t x y e =
    let r = label_front (label t) (label_of 0 true 4) x y e in
    let f : Some t ≡ None = sym (tag_of_label t) ∙ ap tag_of r.0 in cc

-- a class has two bits
pub class_small : (t : Tag) → (label t).class < 4
class_small (Application b n) = omega arith
class_small (ContextSpecific b n) = omega arith
class_small (Private b n) = omega arith
class_small t = omega arith

-- the properties of a row of the universal tags
UniversalRow : ℕ → Tag → Type 0
UniversalRow o t = (tag_octets t ≡ o ∷ []) × ((label t).number < 2 ^ 32) × ((label t).constructed ≡ is_constructed o) × ((label t).class ≡ 0)

data UniversalRows : List (ℕ × Tag) → Type 0 where
  none : UniversalRows []
  ◌and◌ : {o : ℕ} {t : Tag} {rows : List (ℕ × Tag)} → UniversalRow o t → UniversalRows rows → UniversalRows ((o, t) ∷ rows)

infixr 5 ◌and◌
-- the row that is found
row_among : (rows : List (ℕ × Tag)) (o : ℕ) (t : Tag) → UniversalRows rows → tag_among rows o ≡ Some t → UniversalRow o t
row_among _ o t none e = cc
row_among _ o t (◌and◌ {o = p} {t = u} {rows = rows} h more) e =
    ⊎_elim
    (λ same. let f : Some u ≡ Some t = rw (eq-eqb o p same) at e in
    let g : u ≡ t = cc in
    subst (λ v. UniversalRow o v) g (subst (λ k. UniversalRow k u) (sym same) h))
    (λ other. row_among rows o t more (rw (ne_eqb o p other) at e))
    (cases_eq o p)

universal_row : (o : ℕ) (t : Tag) → universal_tag o ≡ Some t → UniversalRow o t
unfolding UniversalRow
universal_row o t = row_among universal_rows o t rows
  where
    rows : UniversalRows universal_rows
    rows =
        (refl, omega arith, refl, refl) and (refl, omega arith, refl, refl) and (refl, omega arith, refl, refl) and (refl, omega arith, refl, refl)
        and (refl, omega arith, refl, refl) and (refl, omega arith, refl, refl) and (refl, omega arith, refl, refl) and (refl, omega arith, refl, refl)
        and (refl, omega arith, refl, refl) and (refl, omega arith, refl, refl) and (refl, omega arith, refl, refl) and (refl, omega arith, refl, refl)
        and (refl, omega arith, refl, refl) and (refl, omega arith, refl, refl) and (refl, omega arith, refl, refl) and (refl, omega arith, refl, refl)
        and (refl, omega arith, refl, refl) and (refl, omega arith, refl, refl) and (refl, omega arith, refl, refl) and (refl, omega arith, refl, refl)
        and (refl, omega arith, refl, refl) and (refl, omega arith, refl, refl) and none

-- a universal tag has one octet, by which it is found
pub universal_octets : (o : ℕ) (t : Tag) → universal_tag o ≡ Some t → tag_octets t ≡ o ∷ []
unfolding UniversalRow
universal_octets o t e = (universal_row o t e).0

-- the number of a universal tag has 32 bits
pub universal_is_tag : (o : ℕ) (t : Tag) → universal_tag o ≡ Some t → (label t).number < 2 ^ 32
unfolding UniversalRow
universal_is_tag o t e = (universal_row o t e).1

-- a universal tag is constructed exactly if its octet has the constructed bit
pub universal_constructed : (o : ℕ) (t : Tag) → universal_tag o ≡ Some t → (label t).constructed ≡ is_constructed o
unfolding UniversalRow
universal_constructed o t e = (universal_row o t e).2

-- a universal tag has class 0
pub universal_class : (o : ℕ) (t : Tag) → universal_tag o ≡ Some t → (label t).class ≡ 0
unfolding UniversalRow
universal_class o t e = (universal_row o t e).3

-- a tag of class 0 is found by its one octet, which is below 64
pub universal_found : (t : Tag) → (label t).class ≡ 0 → (o : ℕ) × (tag_octets t ≡ o ∷ []) × (universal_tag o ≡ Some t) × (o < 64)
universal_found Boolean h = (1, refl, refl, omega arith)
universal_found Integer h = (2, refl, refl, omega arith)
universal_found BitString h = (3, refl, refl, omega arith)
universal_found OctetString h = (4, refl, refl, omega arith)
universal_found Null h = (5, refl, refl, omega arith)
universal_found ObjectIdentifier h = (6, refl, refl, omega arith)
universal_found Real h = (9, refl, refl, omega arith)
universal_found Enumerated h = (10, refl, refl, omega arith)
universal_found Utf8String h = (12, refl, refl, omega arith)
universal_found RelativeOid h = (13, refl, refl, omega arith)
universal_found Sequence h = (48, refl, refl, omega arith)
universal_found Set h = (49, refl, refl, omega arith)
universal_found NumericString h = (18, refl, refl, omega arith)
universal_found PrintableString h = (19, refl, refl, omega arith)
universal_found TeletexString h = (20, refl, refl, omega arith)
universal_found VideotexString h = (21, refl, refl, omega arith)
universal_found Ia5String h = (22, refl, refl, omega arith)
universal_found UtcTime h = (23, refl, refl, omega arith)
universal_found GeneralizedTime h = (24, refl, refl, omega arith)
universal_found VisibleString h = (26, refl, refl, omega arith)
universal_found GeneralString h = (27, refl, refl, omega arith)
universal_found BmpString h = (30, refl, refl, omega arith)
universal_found (Application b n) h = absurd (omega arith)
universal_found (ContextSpecific b n) h = absurd (omega arith)
universal_found (Private b n) h = absurd (omega arith)

-- the content of the first octet of another class
pub label_other : (o n : ℕ) → 64 ≤ o → o < 256 → label (other_tag o n) ≡ label_of (o / 64) (is_constructed o) n
label_other o n low high =
    ⊎_elim
    (λ a. rw (lt-ltb o 128 a) (ap (λ k. label_of k (is_constructed o) n) (let k : 1 ≡ o / 64 = omega arith in k)))
    (λ a. ⊎_elim
    (λ b. rw (le-ltb o 128 a, lt-ltb o 192 b) (ap (λ k. label_of k (is_constructed o) n) (let k : 2 ≡ o / 64 = omega arith in k)))
    (λ b. rw (le-ltb o 128 a, le-ltb o 192 b) (ap (λ k. label_of k (is_constructed o) n) (let k : 3 ≡ o / 64 = omega arith in k)))
    (cases_lt o 192))
    (cases_lt o 128)

-- a tag of another class is constructed exactly if its first octet has the constructed bit
pub other_constructed : (o n : ℕ) → 64 ≤ o → o < 256 → (label (other_tag o n)).constructed ≡ is_constructed o
other_constructed o n low high = ap (λ (l : Label). l.constructed) (label_other o n low high)

-- a tag of another class has the given number
pub other_number : (o n : ℕ) → 64 ≤ o → o < 256 → (label (other_tag o n)).number ≡ n
other_number o n low high = ap (λ (l : Label). l.number) (label_other o n low high)

bit_back : (o : ℕ) (b : Bool) → is_constructed o ≡ b → 64 * (o / 64) + constructed_bit b + o % 32 ≡ o
bit_back o true h = omega (arith, eqb-true (o / 32 % 2) 1 h)
bit_back o false h = let ne = eqb-false (o / 32 % 2) 1 h in omega arith

-- an octet consists of its class, its constructed bit and its five low bits
pub octet_back : (o n : ℕ) → leading_octet (label_of (o / 64) (is_constructed o) n) (o % 32) ≡ o
octet_back o n = bit_back o (is_constructed o) refl

-- one octet is a tag of another class, unless its five low bits are set
pub other_octet : (o : ℕ) → 64 ≤ o → o < 256 → o % 32 < 31 → tag_octets (other_tag o (o % 32)) ≡ o ∷ []
other_octet o low high small =
    ap label_octets (label_other o (o % 32) low high)
    ∙ label_small (label_of (o / 64) (is_constructed o) (o % 32)) small
    ∙ ap (λ x. x ∷ []) (octet_back o (o % 32))

-- an octet whose five low bits are set, followed by a number, is a tag of another class
pub other_octets : (o n : ℕ) → 64 ≤ o → o < 256 → o % 32 ≡ 31 → 31 ≤ n → tag_octets (other_tag o n) ≡ o ∷ continuation_octets (digits 128 n)
other_octets o n low high set large =
    ap label_octets (label_other o n low high)
    ∙ label_large (label_of (o / 64) (is_constructed o) n) large
    ∙ ap (λ x. x ∷ continuation_octets (digits 128 n)) (ap (leading_octet (label_of (o / 64) (is_constructed o) n)) (sym set) ∙ octet_back o n)

bit_small : (b : Bool) → constructed_bit b < 33
bit_small true = omega arith
bit_small false = omega arith

-- a tag is not empty; its first octet is not 0, and all are below 256
pub tag_begins : (t : Tag) → (o : ℕ) × (rest : List ℕ) × (tag_octets t ≡ o ∷ rest) × (o ≢ 0) × AllBelowBase 256 (tag_octets t)
tag_begins t =
    ⊎_elim
    (λ a. let u = universal_found t a in (
      u.0,
      [],
      u.1,
      (λ z. let none : None ≡ Some t = sym (ap universal_tag z) ∙ u.2 in cc),
      subst (AllBelowBase 256) (sym u.1) (omega (arith, u.3), tt),
    ))
    (λ a. other a)
    (cases_eq (label t).class 0)
  where
    other : (label t).class ≢ 0 → (o : ℕ) × (rest : List ℕ) × (tag_octets t ≡ o ∷ rest) × (o ≢ 0) × AllBelowBase 256 (tag_octets t)
    other ne =
        ⊎_elim
        (λ b. (
          leading_octet (label t) (label t).number,
          [],
          label_small (label t) b,
          (λ z. omega arith),
          subst (AllBelowBase 256) (sym (label_small (label t) b)) (omega (arith, class_small t, bit_small (label t).constructed), tt),
        ))
        (λ b. (
          leading_octet (label t) 31,
          continuation_octets (digits 128 (label t).number),
          label_large (label t) b,
          (λ z. omega arith),
          subst (AllBelowBase 256) (sym (label_large (label t) b))
              (omega (arith, class_small t, bit_small (label t).constructed), subst (λ l. AllBelowBase 256 (continuation_octets l)) (sym (digits_positive 128 (label t).number (omega arith))) (continued_octets (digits_of 128 (label t).number) (all_below_base_digits_of 128 (label t).number (omega arith)))),
        ))
        (cases_lt (label t).number 31)
