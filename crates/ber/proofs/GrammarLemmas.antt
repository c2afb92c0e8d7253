-- Octets begin with at most one header, and with none if there is a fault.
use Rattle.std.proofs.Common.{◌≡◌, ℕ, ◌+◌, ◌*◌, ◌/◌, ◌%◌, ◌^◌, ◌<◌, ◌≤◌, ◌↔◌, IsTrue, Bool, true, false, List, [], ◌∷◌, ◌++◌, length, refl, sym, ap, ◌∙◌, subst, ⊎_elim, append_assoc, length-append, arith}
use Rattle.std.proofs.lemmas.Bool.{cases_lt}
use Rattle.std.proofs.lemmas.Int.Digits.{length-digits_of-le}
use Rattle.std.specs.Int.Digits.{digits_of, number_from_digits}
use Rattle.der_base.specs.Class.{class_number}
use Rattle.der_base.specs.Length.{digits}
use Rattle.der_base.specs.Tag.{Label, leading_octet, continuation_octets, IdentifierFault}
use Rattle.der_base.specs.Error.{Refusal}
use Rattle.der_base.specs.declared.encoding_rules.EncodingRules.TheVariants.{Der}
use Rattle.der_base.specs.declared.tag.class.Class.{Class}
use Rattle.der_base.specs.declared.tag.class.Class.TheVariants.{Universal, Application, ContextSpecific, Private}
use Rattle.der_base.proofs.DigitLemmas.{same_length_front, digits_of_push, digits_positive, length_continued}
use Rattle.der_base.proofs.TagLemmas.{label_front, label_small, label_large, octet_parts, octet_back}
use Rattle.der_base.proofs.IdentifierLemmas.{no_identifier_fault, long_identifier}
use Rattle.der_base.proofs.LongNumberLemmas.{so_far_none, number_cut, number_refused_first, number_refused_few, number_refused_many, continued_digits_push}
use Rattle.ber.specs.Identifier.{identifier_octets, label_at, continued_digits}
use Rattle.ber.specs.Length.{IsLength, short, long, indefinite, IsMinimal}
use Rattle.ber.specs.Header.{label_of_header, IsHeader, IsNext}
use Rattle.ber.specs.Fault.{IsNumberFault, ends, padded, small, large, IsLengthFault, nothing, few, reserved, too_large, primitive, IsFault, no_octets, no_number, no_length}
use Rattle.ber.specs.declared.header.Header.{Header}
use Rattle.ber.specs.declared.length.Length.{Length}
use Rattle.ber.specs.declared.length.Length.TheVariants.{Definite, Indefinite}
use Rattle.ber.specs.declared.fault.Fault.{Fault}

-- no length is a proper prefix of another
pub one_length : {l k : Length} {a b : List ℕ} → IsLength l a → IsLength k b → (x y : List ℕ) → a ++ x ≡ b ++ y → (l ≡ k) × (a ≡ b) × (x ≡ y)
one_length (short n p) (short m q) x y e = let f : n ≡ m = cc in (ap Definite f, ap (λ i. i ∷ []) f, cc)
one_length (short n p) (long es some most all fits) x y e = let f : n ≡ 128 + length es = cc in absurd (omega arith)
one_length (short n p) indefinite x y e = let f : n ≡ 128 = cc in absurd (omega arith)
one_length (long ds some most all fits) (short m q) x y e = let f : 128 + length ds ≡ m = cc in absurd (omega arith)
one_length (long ds some most all fits) (long es more last each room) x y e =
    let f : 128 + length ds ≡ 128 + length es = cc in
    let g : ds ++ x ≡ es ++ y = cc in
    let r = same_length_front ds es x y (omega arith) g in
    (ap (λ d. Definite (number_from_digits 256 d)) r.0, ap (λ d. (128 + length d) ∷ d) r.0, r.1)
one_length (long ds some most all fits) indefinite x y e = let f : 128 + length ds ≡ 128 = cc in absurd (omega arith)
one_length indefinite (short m q) x y e = let f : 128 ≡ m = cc in absurd (omega arith)
one_length indefinite (long es some most all fits) x y e = let f : 128 ≡ 128 + length es = cc in absurd (omega arith)
one_length indefinite indefinite x y e = (refl, refl, cc)

-- tests that hold in the same cases are equal
same_test : {P Q : Type 0} (a b : Bool) → IsTrue a ↔ P → IsTrue b ↔ Q → (P → Q) → (Q → P) → a ≡ b
same_test true true p q f g = refl
same_test false false p q f g = refl
same_test true false p q f g = sym (q.1 (f (p.0 refl)))
same_test false true p q f g = p.1 (g (q.0 refl))

-- a class is given by its number
same_class : (c d : Class) → class_number c ≡ class_number d → c ≡ d
same_class Universal Universal e = refl
same_class Application Application e = refl
same_class ContextSpecific ContextSpecific e = refl
same_class Private Private e = refl
same_class Universal Application e = absurd (omega arith)
same_class Universal ContextSpecific e = absurd (omega arith)
same_class Universal Private e = absurd (omega arith)
same_class Application Universal e = absurd (omega arith)
same_class Application ContextSpecific e = absurd (omega arith)
same_class Application Private e = absurd (omega arith)
same_class ContextSpecific Universal e = absurd (omega arith)
same_class ContextSpecific Application e = absurd (omega arith)
same_class ContextSpecific Private e = absurd (omega arith)
same_class Private Universal e = absurd (omega arith)
same_class Private Application e = absurd (omega arith)
same_class Private ContextSpecific e = absurd (omega arith)

same_header : (h g : Header) → h.class ≡ g.class → h.constructed ≡ g.constructed → h.number ≡ g.number → h.length ≡ g.length → h.minimal ≡ g.minimal → h.header_len ≡ g.header_len → h ≡ g
same_header h g a b c d e f =
    ap (λ x. record h { class = x }) a
    ∙ ap (λ x. record h { class = g.class; constructed = x }) b
    ∙ ap (λ x. record h { class = g.class; constructed = g.constructed; number = x }) c
    ∙ ap (λ x. record h { class = g.class; constructed = g.constructed; number = g.number; length = x }) d
    ∙ ap (λ x. record h { class = g.class; constructed = g.constructed; number = g.number; length = g.length; minimal = x }) e
    ∙ ap (λ x. record g { header_len = x }) f

-- lengths in equal octets are the fewest alike
minimal_same : {l k : Length} {a b : List ℕ} → l ≡ k → a ≡ b → IsMinimal l a → IsMinimal k b
minimal_same {l} {k} {a} {b} e f is = subst (λ i. IsMinimal i b) e (subst (λ s. IsMinimal l s) f is)

-- no header is a proper prefix of another
pub one_header : {h g : Header} {a b : List ℕ} → IsHeader h a → IsHeader g b → (x y : List ℕ) → a ++ x ≡ b ++ y → (h ≡ g) × (a ≡ b) × (x ≡ y)
one_header {h} {g} {a} {b} p q x y e =
    let left : a ++ x ≡ identifier_octets (label_of_header h) ++ (p.size ++ x) = ap (λ l. l ++ x) p.spelled ∙ append_assoc (identifier_octets (label_of_header h)) p.size x in
    let right : b ++ y ≡ identifier_octets (label_of_header g) ++ (q.size ++ y) = ap (λ l. l ++ y) q.spelled ∙ append_assoc (identifier_octets (label_of_header g)) q.size y in
    let front = label_front (label_of_header h) (label_of_header g) (p.size ++ x) (q.size ++ y) (sym left ∙ e ∙ right) in
    let tail = one_length p.sized q.sized x y front.1 in
    let octets : a ≡ b = p.spelled ∙ ap (λ l. identifier_octets l ++ p.size) front.0 ∙ ap (λ s. identifier_octets (label_of_header g) ++ s) tail.1 ∙ sym q.spelled in (
      same_header h g
          (same_class h.class g.class (ap (λ (l : Label). l.class) front.0))
          (ap (λ (l : Label). l.constructed) front.0)
          (ap (λ (l : Label). l.number) front.0)
          tail.0
          (same_test h.minimal g.minimal p.minimal q.minimal (minimal_same tail.0 tail.1) (minimal_same (sym tail.0) (sym tail.1)))
          (p.whole ∙ ap length octets ∙ sym q.whole),
      octets,
      tail.2,
    )

-- a fault at equal octets
refused_on : {s t : List ℕ} {r : Refusal} → s ≡ t → IdentifierFault Der 0 (95 ∷ t) r → IdentifierFault Der 0 (95 ∷ s) r
refused_on {r = r} e is = subst (λ l. IdentifierFault Der 0 (95 ∷ l) r) (sym e) is

-- a fault of a number is one of an identifier of another class
number_refused : {s : List ℕ} {f : Fault} → IsNumberFault s f → (r : Refusal) × IdentifierFault Der 0 (95 ∷ s) r
number_refused (ends n low) = (_, number_cut 0 95 n (continued_digits (digits_of 128 n)) (omega arith) (omega arith) refl (record { octets = refl; small = low }))
number_refused (padded rest) = (_, number_refused_first 0 95 0 128 [] rest (omega arith) (omega arith) refl so_far_none refl refl)
number_refused (small n rest low) = (_, number_refused_few 0 95 0 n [] rest (omega arith) (omega arith) refl so_far_none (omega arith) (omega arith))
number_refused (large n rest many low) =
    let m = n / 128 in
    let d = n % 128 in
    let back : m * 128 + d ≡ n = omega arith in
    let pushed : digits_of 128 n ≡ digits_of 128 m ++ d ∷ [] = ap (digits_of 128) (sym back) ∙ digits_of_push 128 m d (omega arith) (omega arith) (omega arith) in
    let octets : continued_digits (digits_of 128 n) ++ rest ≡ continued_digits (digits_of 128 m) ++ (128 + d) ∷ rest =
    ap (λ l. continued_digits l ++ rest) pushed ∙ ap (λ l. l ++ rest) (continued_digits_push (digits_of 128 m) d) ∙ append_assoc (continued_digits (digits_of 128 m)) ((128 + d) ∷ []) rest in
    let fault = number_refused_many {rules = Der} 0 95 m (128 + d) (continued_digits (digits_of 128 m)) rest (omega arith) (omega arith) refl (record { octets = refl; small = low }) (omega arith) (omega arith) (omega arith) in
    (_, refused_on octets fault)

-- octets with a fault of a number begin with none
pub number_never : {s : List ℕ} {f : Fault} → IsNumberFault s f → (n : ℕ) (y : List ℕ) → 31 ≤ n → n < 2 ^ 32 → s ≡ continuation_octets (digits 128 n) ++ y → ⊥
number_never {s} is n y many fits e =
    let refused = number_refused is in
    no_identifier_fault y refused.1 (long_identifier {rules = Der} 95 n (omega arith) (omega arith) refl many fits) (ap (λ l. 95 ∷ l) e)

-- octets with a fault of a length begin with none
length_never : {b : Bool} {at : ℕ} {s a : List ℕ} {f : Fault} {l : Length} → IsLengthFault b at s f → IsLength l a → (l ≡ Indefinite → b ≡ true) → (y : List ℕ) → s ≡ a ++ y → ⊥
length_never nothing (short n p) form y e = cc
length_never nothing (long ds some most all fits) form y e = cc
length_never nothing indefinite form y e = cc
length_never (few k es some most cut) (short n p) form y e = let f : 128 + k ≡ n = cc in omega arith
length_never (few k es some most cut) (long ds more last all fits) form y e =
    let f : 128 + k ≡ 128 + length ds = cc in
    let g : es ≡ ds ++ y = cc in
    omega (arith, ap length g, length-append ds y)
length_never (few k es some most cut) indefinite form y e = let f : 128 + k ≡ 128 = cc in omega arith
length_never (reserved rest) (short n p) form y e = let f : 255 ≡ n = cc in omega arith
length_never (reserved rest) (long ds more last all fits) form y e = let f : 255 ≡ 128 + length ds = cc in omega arith
length_never (reserved rest) indefinite form y e = let f : (255 + 0) ≡ 128 = cc in omega (arith, f)
length_never (too_large es rest some most big) (short n p) form y e = let f : 128 + length es ≡ n = cc in omega arith
length_never (too_large es rest some most big) (long ds more last all fits) form y e =
    let f : 128 + length es ≡ 128 + length ds = cc in
    let g : es ++ rest ≡ ds ++ y = cc in
    let r = same_length_front es ds rest y (omega arith) g in
    omega (arith, big, fits, ap (number_from_digits 256) r.0)
length_never (too_large es rest some most big) indefinite form y e = let f : 128 + length es ≡ 128 = cc in omega arith
length_never (primitive off rest) (short n p) form y e = let f : 128 ≡ n = cc in omega arith
length_never (primitive off rest) (long ds more last all fits) form y e = let f : 128 ≡ 128 + length ds = cc in omega arith
length_never (primitive off rest) indefinite form y e = let f : false ≡ true = sym off ∙ form refl in cc

-- an identifier is not empty
pub identifier_some : (l : Label) (y : List ℕ) → [] ≡ identifier_octets l ++ y → ⊥
identifier_some l y e =
    ⊎_elim
    (λ a. let f : [] ≡ leading_octet l l.number ∷ y = e ∙ ap (λ x. x ++ y) (label_small l a) in cc)
    (λ a. let f : [] ≡ leading_octet l 31 ∷ (continuation_octets (digits 128 l.number) ++ y) = e ∙ ap (λ x. x ++ y) (label_large l a) in cc)
    (cases_lt l.number 31)

-- a first octet whose five low bits are set is followed by the number
pub identifier_set : (o : ℕ) (l : Label) (s y : List ℕ) → o % 32 ≡ 31 → o ∷ s ≡ identifier_octets l ++ y → (31 ≤ l.number) × (s ≡ continuation_octets (digits 128 l.number) ++ y)
identifier_set o l s y set e =
    ⊎_elim
    (λ a. let f : o ∷ s ≡ leading_octet l l.number ∷ y = e ∙ ap (λ x. x ++ y) (label_small l a) in
    let g : o ≡ leading_octet l l.number = cc in
    let parts = octet_parts (label_at o 0) l (o % 32) l.number (omega arith) (omega arith) (octet_back o 0 ∙ g) in
    absurd (omega (arith, parts.2)))
    (λ a. let f : o ∷ s ≡ leading_octet l 31 ∷ (continuation_octets (digits 128 l.number) ++ y) = e ∙ ap (λ x. x ++ y) (label_large l a) in (a, cc))
    (cases_lt l.number 31)

-- octets with a fault begin with no header
pub no_header : {s a : List ℕ} {f : Fault} {h : Header} → IsFault s f → IsHeader h a → (y : List ℕ) → s ≡ a ++ y → ⊥
no_header {a = a} {h = h} fault is y e =
    let whole : a ++ y ≡ identifier_octets (label_of_header h) ++ (is.size ++ y) = ap (λ l. l ++ y) is.spelled ∙ append_assoc (identifier_octets (label_of_header h)) is.size y in
    go fault (e ∙ whole)
  where
    go : {s : List ℕ} {f : Fault} → IsFault s f → s ≡ identifier_octets (label_of_header h) ++ (is.size ++ y) → ⊥
    go no_octets e = identifier_some (label_of_header h) (is.size ++ y) e
    go (no_number {s = s} o low set number) e =
        let r = identifier_set o (label_of_header h) s (is.size ++ y) set e in
        number_never number h.number (is.size ++ y) r.0 is.number r.1
    go (no_length {more = more} l fits number) e =
        let r = label_front l (label_of_header h) more (is.size ++ y) e in
        length_never number is.sized (λ i. ap (λ (m : Label). m.constructed) r.0 ∙ is.form i) y r.1

-- a length has at least one octet
pub length_some : {l : Length} {a : List ℕ} → IsLength l a → 1 ≤ length a
length_some (short n p) = omega arith
length_some (long ds some most all fits) = omega arith
length_some indefinite = omega arith

-- an identifier has at least one octet
identifier_one : (l : Label) → 1 ≤ length (identifier_octets l)
identifier_one l =
    ⊎_elim
    (λ a. omega (arith, ap length (label_small l a)))
    (λ a. omega (arith, ap length (label_large l a)))
    (cases_lt l.number 31)

-- a header has at least two octets
pub header_two : {h : Header} {a : List ℕ} → IsHeader h a → 2 ≤ h.header_len
header_two {h} is = omega (arith, is.whole, ap length is.spelled, length-append (identifier_octets (label_of_header h)) is.size, identifier_one (label_of_header h), length_some is.sized)

-- a length has at most 127 octets
length_few : {l : Length} {a : List ℕ} → IsLength l a → length a ≤ 127
length_few (short n p) = omega arith
length_few (long ds some most all fits) = omega arith
length_few indefinite = omega arith

-- an identifier has at most six octets
identifier_few : (l : Label) → l.number < 2 ^ 32 → length (identifier_octets l) ≤ 6
identifier_few l fits =
    ⊎_elim
    (λ a. omega (arith, ap length (label_small l a)))
    (λ a. omega (arith, ap length (label_large l a), length_continued (digits 128 l.number), ap length (digits_positive 128 l.number (omega arith)), length-digits_of-le 128 5 l.number (omega arith) (omega arith)))
    (cases_lt l.number 31)

-- a header has at most 133 octets
pub header_few : {h : Header} {a : List ℕ} → IsHeader h a → h.header_len ≤ 133
header_few {h} is = omega (arith, is.whole, ap length is.spelled, length-append (identifier_octets (label_of_header h)) is.size, identifier_few (label_of_header h) is.number, length_few is.sized)

-- the header at the front of octets is within them
pub next_within : {h : Header} {s : List ℕ} → IsNext h s → (2 ≤ h.header_len) × (h.header_len ≤ length s)
next_within next = (header_two next.is, omega (arith, next.is.whole, ap length next.split, length-append next.front next.rest))
