-- Headers with no departure are those of the Distinguished Encoding Rules.
use Rattle.std.proofs.Common.{◌≡◌, ◌≢◌, ℕ, ◌+◌, ◌^◌, ◌<◌, Bool, true, false, Some, List, ◌∷◌, ◌++◌, length, refl, sym, ap, ◌∙◌, subst, ⊎_elim, append_assoc, length-append, arith}
use Rattle.std.proofs.lemmas.Bool.{cases_lt}
use Rattle.std.proofs.lemmas.Int.Digits.{number_digits_of, all_below_base_digits_of, length-digits_of-le}
use Rattle.std.specs.Int.Digits.{digits_of, number_from_digits}
use Rattle.der_base.specs.Class.{class_number}
use Rattle.der_base.specs.Length.{number, definite_length, digits, length_octets}
use Rattle.der_base.specs.Tag.{Label, label, label_of, tag_octets, tag_number, of_tag}
use Rattle.der_base.specs.HeaderGrammar.{Head, head, HeadNext, header, definite}
use Rattle.der_base.specs.declared.encoding_rules.EncodingRules.{EncodingRules}
use Rattle.der_base.specs.declared.encoding_rules.EncodingRules.TheVariants.{Der}
use Rattle.der_base.specs.declared.tag.Tag.{Tag}
use Rattle.der_base.specs.declared.tag.Tag.TheVariants as tags
use Rattle.der_base.specs.declared.tag.class.Class.{Class}
use Rattle.der_base.specs.declared.tag.class.Class.TheVariants as classes
use Rattle.der_base.proofs.DigitLemmas.{digits_positive, length_digits_positive}
use Rattle.der_base.proofs.LengthLemmas.{length_small, length_large}
use Rattle.der_base.proofs.IdentifierLemmas.{IdentifierView, tagged, segmented, identifier_view, identifier_at}
use Rattle.der_base.proofs.HeaderLemmas.{HeaderView, header_view_of, header_view, LengthView, view_definite, view_indefinite, length_view}
use Rattle.ber.specs.Identifier.{identifier_octets}
use Rattle.ber.specs.Length.{IsLength, short, long, indefinite, IsMinimal}
use Rattle.ber.specs.Header.{label_of_header, IsNext}
use Rattle.ber.specs.Der.{type_of, HasWrongForm, IsConstructedString, IsDer, has_tag}
use Rattle.ber.specs.Laws.{IsHead}
use Rattle.ber.specs.Form.{allows}
use Rattle.ber.specs.Universal.{number_of, form_of, universal_at}
use Rattle.ber.specs.declared.header.Header.{Header}
use Rattle.ber.specs.declared.length.Length.{Length}
use Rattle.ber.specs.declared.length.Length.TheVariants.{Definite, Indefinite}
use Rattle.ber.specs.declared.form.Form.TheVariants.{Either}
use Rattle.ber.proofs.UniversalLemmas.{number_found, der_bit, der_bit_of, der_bit_allowed, label_of_type, form_of_tag, tag_has, type_has}

-- a label with a tag, in the form of its type, is that of the tag
label_tag : (k : Class) (b : Bool) (n : ℕ) → (HasWrongForm (label_of (class_number k) b n) → ⊥) → (IsConstructedString (label_of (class_number k) b n) → ⊥) → has_tag (label_of (class_number k) b n) ≡ true
    → (t : Tag) × (label t ≡ label_of (class_number k) b n)
label_tag classes.Universal b n wrong string has =
    let (u, t, e, f) = type_has (universal_at n) has in
    let bit : b ≡ der_bit (form_of u) = der_bit_of (form_of u) b (λ w. wrong (u, e, w)) (λ x y. string (u, e, x, y)) in
    (t, label_of_type u t f ∙ ap (λ c. label_of 0 c (number_of u)) (sym bit) ∙ ap (label_of 0 b) (number_found n u e))
label_tag classes.Application b n wrong string has = (tags.Application b (tag_number n), refl)
label_tag classes.ContextSpecific b n wrong string has = (tags.ContextSpecific b (tag_number n), refl)
label_tag classes.Private b n wrong string has = (tags.Private b (tag_number n), refl)

-- a length that is not indefinite
definite_of : (l : Length) → l ≢ Indefinite → (n : ℕ) × (l ≡ Definite n)
definite_of (Definite n) h = (n, refl)
definite_of Indefinite h = absurd (h refl)

-- a definite length has 32 bits
length_fits : {l : Length} {a : List ℕ} → IsLength l a → (n : ℕ) → l ≡ Definite n → n < 2 ^ 32
length_fits (short m h) n e = let f : m ≡ n = cc in omega arith
length_fits (long ds some most all fits) n e = let f : number_from_digits 256 ds ≡ n = cc in omega (arith, fits)
length_fits indefinite n e = cc

-- a header at equal octets
head_at : {g : Head} {rules : EncodingRules} {s t : List ℕ} {m n : ℕ} → s ≡ t → m ≡ n → HeadNext g rules s m → HeadNext g rules t n
head_at {g} {rules} {s} {t} {m} {n} e f next = subst (λ l. HeadNext g rules l n) e (subst (λ k. HeadNext g rules s k) f next)

-- a header without departures is one of the Distinguished Encoding Rules
pub der_header : (octets : List ℕ) (h : Header) → IsNext h octets → IsDer h → has_tag (label_of_header h) ≡ true → (g : Head) × IsHead g h × HeadNext g Der octets h.header_len
der_header octets h next der has =
    let (t, labels) = label_tag h.class h.constructed h.number der.form der.whole has in
    let (n, e) = definite_of h.length der.definite in
    let is = next.is in
    let small : (label t).number < 2 ^ 32 = omega (arith, is.number, ap (λ (l : Label). l.number) labels) in
    let bit : (label t).constructed ≡ h.constructed = ap (λ (l : Label). l.constructed) labels in
    let least : is.size ≡ length_octets n = subst (λ l. IsMinimal l is.size) e (is.minimal.0 der.minimal) in
    let fits : n < 2 ^ 32 = length_fits is.sized n e in
    let front : next.front ≡ tag_octets t ++ length_octets n = is.spelled ∙ ap (λ l. identifier_octets l ++ is.size) (sym labels) ∙ ap (λ s. tag_octets t ++ s) least in
    let whole : tag_octets t ++ (length_octets n ++ next.rest) ≡ octets = sym (append_assoc (tag_octets t) (length_octets n) next.rest) ∙ ap (λ l. l ++ next.rest) (sym front) ∙ sym next.split in
    let count : length (tag_octets t) + length (length_octets n) ≡ h.header_len = omega (arith, is.whole, ap length front, length-append (tag_octets t) (length_octets n)) in
    let core : HeadNext (head t (definite_length n) h.constructed) Der (tag_octets t ++ (length_octets n ++ next.rest)) (length (tag_octets t) + length (length_octets n)) =
    header (identifier_at refl bit (of_tag small)) (definite n next.rest fits) (λ i. cc) in (
      head t (definite_length n) h.constructed,
      record { label = labels; constructed = refl; definite = refl; length = e },
      head_at whole count core,
    )

-- the class of a tag
class_of : Tag → Class
class_of (tags.Application b n) = classes.Application
class_of (tags.ContextSpecific b n) = classes.ContextSpecific
class_of (tags.Private b n) = classes.Private
class_of _ = classes.Universal

class_of_tag : (t : Tag) → class_number (class_of t) ≡ (label t).class
unfolding class_of
class_of_tag (tags.Application b n) = refl
class_of_tag (tags.ContextSpecific b n) = refl
class_of_tag (tags.Private b n) = refl
class_of_tag _ = refl

-- the length octets of a number are a length
length_of : (n : ℕ) → n < 2 ^ 32 → IsLength (Definite n) (length_octets n)
length_of n fits =
    ⊎_elim
    (λ a. subst (IsLength (Definite n)) (sym (length_small n a)) (short n a))
    (λ a.
    let same : digits 256 n ≡ digits_of 256 n = digits_positive 256 n (omega arith) in
    let back : number_from_digits 256 (digits_of 256 n) ≡ n = number_digits_of 256 n (omega arith) in
    let core : IsLength (Definite (number_from_digits 256 (digits_of 256 n))) ((128 + length (digits_of 256 n)) ∷ digits_of 256 n) =
    long (digits_of 256 n) (length_digits_positive 256 n (omega arith) (omega arith)) (omega (arith, length-digits_of-le 256 4 n (omega arith) fits)) (all_below_base_digits_of 256 n (omega arith)) (omega (arith, back)) in
    subst (λ l. IsLength (Definite n) l) (sym (length_large n a ∙ ap (λ l. (128 + length l) ∷ l) same)) (subst (λ k. IsLength (Definite k) ((128 + length (digits_of 256 n)) ∷ digits_of 256 n)) back core))
    (cases_lt n 128)

-- a header of a tag and a length
module _ (t : Tag) (n m : ℕ) where
  header_of : Header
  header_of = record { class = class_of t; constructed = (label t).constructed; number = (label t).number; length = Definite n; minimal = true; header_len = m }

  label_of_it : label_of_header header_of ≡ label t
  unfolding header_of
  label_of_it = ap (λ c. label_of c (label t).constructed (label t).number) (class_of_tag t)

  tag_is_der : IsDer header_of
  unfolding header_of
  tag_is_der =
      record {
        definite = λ e. cc;
        minimal = refl;
        form = λ w. let e : type_of (label t) ≡ Some w.0 = ap type_of (sym label_of_it) ∙ w.1 in
            der_bit_allowed (form_of w.0) (ap (allows (form_of w.0)) (sym (form_of_tag t w.0 e)) ∙ w.2);
        whole = λ w. let e : type_of (label t) ≡ Some w.0 = ap type_of (sym label_of_it) ∙ w.1 in
            let bit : (label t).constructed ≡ der_bit Either = form_of_tag t w.0 e ∙ ap der_bit w.2 in
            let f : true ≡ false = sym w.3 ∙ bit in cc;
      }

  tag_is_next : (rest octets : List ℕ) → (label t).number < 2 ^ 32 → n < 2 ^ 32 → octets ≡ tag_octets t ++ (length_octets n ++ rest) → m ≡ length (tag_octets t) + length (length_octets n) → IsNext header_of octets
  unfolding header_of
  tag_is_next rest octets small fits e count =
      record {
        front = tag_octets t ++ length_octets n;
        rest = rest;
        is = record {
          number = small;
          size = length_octets n;
          sized = length_of n fits;
          spelled = ap (λ l. identifier_octets l ++ length_octets n) (sym label_of_it);
          form = λ f. absurd (cc);
          minimal = (λ _. refl, λ _. refl);
          whole = omega (arith, count, length-append (tag_octets t) (length_octets n));
        };
        split = e ∙ sym (append_assoc (tag_octets t) (length_octets n) rest);
      }

-- a header of the Distinguished Encoding Rules is one without departures
pub header_der : (octets : List ℕ) (g : Head) (m : ℕ) → HeadNext g Der octets m → (h : Header) × IsHead g h × IsNext h octets × IsDer h × (has_tag (label_of_header h) ≡ true) × (h.header_len ≡ m)
unfolding header_of
header_der octets g m next = go (header_view next)
  where
    Result : Type 0
    Result = (h : Header) × IsHead g h × IsNext h octets × IsDer h × (has_tag (label_of_header h) ≡ true) × (h.header_len ≡ m)

    with_both : {k : ℕ} (id more : List ℕ) → IdentifierView Der id g.tag g.constructed → LengthView g.length Der more k → octets ≡ id ++ more → m ≡ length id + k → Result
    with_both id more (segmented ber a b c) size e f = cc
    with_both id more is (view_indefinite body rest ber body_is split l k) e f = cc
    with_both id more (tagged small spelled bit) (view_definite n rest fits split l k) e f =
        let whole : octets ≡ tag_octets g.tag ++ (length_octets n ++ rest) = e ∙ ap (λ i. i ++ more) spelled ∙ ap (λ x. tag_octets g.tag ++ x) split in
        let count : m ≡ length (tag_octets g.tag) + length (length_octets n) = omega (arith, f, ap length spelled, k) in
        let same : number g.length ≡ n = ap number l in (
          header_of g.tag n m,
          record {
            label = sym (label_of_it g.tag n m);
            constructed = bit;
            definite = l ∙ ap definite_length (sym same);
            length = ap Definite (sym same);
          },
          tag_is_next g.tag n m rest octets small fits whole count,
          tag_is_der g.tag n m,
          ap has_tag (label_of_it g.tag n m) ∙ tag_has g.tag,
          refl,
        )

    go : HeaderView g Der octets m → Result
    go (header_view_of id more is size ok e f) = with_both id more (identifier_view is) (length_view size) e f
