-- Headers: an identifier, and the length after it.
use Rattle.std.proofs.Common.{◌≡◌, ℕ, ◌+◌, ◌/◌, ◌%◌, ◌^◌, ◌<◌, ◌≤◌, ◌↔◌, false, Bool, true, List, [], ◌∷◌, ◌++◌, length, refl, sym, ap, ◌∙◌, subst, append_assoc, length-append, arith}
use Rattle.std.proofs.lemmas.Int.Digits.{length-digits_of-le}
use Rattle.der_base.specs.Class.{class_number}
use Rattle.der_base.specs.Length.{digits}
use Rattle.der_base.specs.Tag.{label_of, leading_octet, is_constructed, continuation_octets}
use Rattle.der_base.specs.declared.tag.class.Class.{Class}
use Rattle.der_base.specs.declared.tag.class.Class.TheVariants.{Universal}
use Rattle.der_base.proofs.LengthLemmas.{length_small}
use Rattle.der_base.proofs.DigitLemmas.{digits_positive, length_continued}
use Rattle.der_base.proofs.TagLemmas.{label_small, label_large, octet_back}
use Rattle.ber.specs.Identifier.{identifier_octets, label_at, IsTagNumber}
use Rattle.ber.specs.Length.{LengthNext}
use Rattle.ber.specs.Header.{label_of_header, IsNext, end_header}
use Rattle.ber.specs.Fault.{IsFault, IsLengthFault, no_length}
use Rattle.ber.specs.declared.header.Header.{Header}
use Rattle.ber.specs.declared.length.Length.TheVariants.{Definite}
use Rattle.ber.specs.declared.length_octets.LengthOctets.{LengthOctets}
use Rattle.ber.specs.declared.fault.Fault.{Fault}
use Rattle.ber.proofs.LengthLemmas.{octets_of, length_short}

-- a number below 31 is in the first octet
pub identifier_short : (o : ℕ) → o % 32 < 31 → identifier_octets (label_at o (o % 32)) ≡ o ∷ []
identifier_short o low = label_small (label_at o (o % 32)) low ∙ ap (λ x. x ∷ []) (octet_back o (o % 32))

-- a number from 31 on follows the first octet
pub identifier_long : (o n : ℕ) → o % 32 ≡ 31 → 31 ≤ n → identifier_octets (label_at o n) ≡ o ∷ continuation_octets (digits 128 n)
identifier_long o n set large =
    label_large (label_at o n) large ∙ ap (λ x. x ∷ continuation_octets (digits 128 n)) (ap (leading_octet (label_at o n)) (sym set) ∙ octet_back o n)

-- a tag number has at most five octets
pub tag_number_few : {n m : ℕ} {octets : List ℕ} → IsTagNumber n m octets → m ≤ 5
tag_number_few {n} {m} is =
    omega (arith, is.count, length_continued (digits 128 n), ap length (digits_positive 128 n (omega (arith, is.large))), length-digits_of-le 128 5 n (omega arith) (omega (arith, is.small)))

-- the identifier of a long number has an octet more than the number
pub long_count : (o n m : ℕ) (octets : List ℕ) → o % 32 ≡ 31 → IsTagNumber n m octets → 1 + m ≡ length (identifier_octets (label_at o n))
long_count o n m octets set is = omega (arith, is.count, ap length (identifier_long o n set is.large))

-- octets that begin with a header, at equal octets
pub next_at : {h : Header} {s t : List ℕ} → s ≡ t → IsNext h t → IsNext h s
next_at {h} e next = subst (IsNext h) (sym e) next

-- a fault at equal octets
pub fault_on : {f : Fault} {s t : List ℕ} → s ≡ t → IsFault t f → IsFault s f
fault_on {f} e is = subst (λ l. IsFault l f) (sym e) is

-- an identifier and the length after it are a header
pub header_next : (k : Class) (b : Bool) (o n at : ℕ) (l : LengthOctets) (after : List ℕ) → class_number k ≡ o / 64 → b ≡ is_constructed o → n < 2 ^ 32 → at ≡ length (identifier_octets (label_at o n)) → LengthNext l b after
    → IsNext (record { class = k; constructed = b; number = n; length = l.length; minimal = l.minimal; header_len = at + l.count }) (identifier_octets (label_at o n) ++ after)
header_next k b o n at l after class form small count next =
    let id = identifier_octets (label_at o n) in
    let labels : label_of (class_number k) b n ≡ label_at o n = ap (λ c. label_of c b n) class ∙ ap (λ c. label_of (o / 64) c n) form in
    record {
      front = id ++ next.size;
      rest = next.rest;
      is = record {
        number = small;
        size = next.size;
        sized = next.sized;
        spelled = ap (λ m. identifier_octets m ++ next.size) (sym labels);
        form = next.form;
        minimal = next.minimal;
        whole = omega (arith, count, next.count, length-append id next.size);
      };
      split = ap (λ x. id ++ x) next.split ∙ sym (append_assoc id next.size next.rest);
    }

-- one octet for the identifier, and one for the length
pub header_short : (k : Class) (b : Bool) (o n : ℕ) (rest octets : List ℕ) → octets ≡ o ∷ n ∷ rest → class_number k ≡ o / 64 → b ≡ is_constructed o → o % 32 < 31 → n < 128
    → IsNext (record { class = k; constructed = b; number = o % 32; length = Definite n; minimal = true; header_len = 2 }) octets
header_short k b o n rest octets e class form low small =
    let id = identifier_short o low in
    next_at (e ∙ ap (λ l. l ++ n ∷ rest) (sym id)) (header_next k b o (o % 32) 1 (octets_of (Definite n) true 1) (n ∷ rest) class form (omega arith) (omega (arith, ap length id)) (length_short n b rest small))

-- an identifier and a fault of the length after it
pub header_fault : (b : Bool) (o n at : ℕ) (after : List ℕ) (f : Fault) → b ≡ is_constructed o → n < 2 ^ 32 → at ≡ length (identifier_octets (label_at o n)) → IsLengthFault b at after f
    → IsFault (identifier_octets (label_at o n) ++ after) f
header_fault b o n at after f form small count is =
    no_length (label_at o n) small (subst (λ c. IsLengthFault c (length (identifier_octets (label_at o n))) after f) form (subst (λ k. IsLengthFault b k after f) count is))

-- the end-of-contents octets are a header
end_next : (octets rest : List ℕ) → octets ≡ 0 ∷ 0 ∷ rest → IsNext end_header octets
end_next octets rest e = header_short Universal false 0 0 rest octets e refl refl (omega arith) (omega arith)

-- octets with their header begin with them
end_octets : (octets : List ℕ) → IsNext end_header octets → (rest : List ℕ) × (octets ≡ 0 ∷ 0 ∷ rest)
end_octets octets next =
    let is = next.is in
    let size : is.size ≡ 0 ∷ [] = is.minimal.0 refl ∙ length_small 0 (omega arith) in
    let id : identifier_octets (label_of_header end_header) ≡ 0 ∷ [] = label_small (label_of_header end_header) (omega arith) in
    let front : next.front ≡ 0 ∷ 0 ∷ [] = is.spelled ∙ ap (λ l. l ++ is.size) id ∙ ap (λ l. 0 ∷ l) size in
    (next.rest, next.split ∙ ap (λ l. l ++ next.rest) front)

-- octets begin with the end-of-contents octets exactly if they begin with their header
pub end_header_next : (octets : List ℕ) → ((rest : List ℕ) × (octets ≡ 0 ∷ 0 ∷ rest)) ↔ IsNext end_header octets
end_header_next octets = (λ (rest, e). end_next octets rest e, end_octets octets)
