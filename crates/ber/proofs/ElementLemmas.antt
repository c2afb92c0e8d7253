-- Elements of definite length: what is read of them, and that none begins another.
use Rattle.std.proofs.Common.{◌≡◌, ℕ, ◌+◌, ◌-◌, ◌<◌, ◌≤◌, List, ◌++◌, length, take, drop, refl, sym, ap, ◌∙◌, append_assoc, length-append, length-take-le, drop_at, arith}
use Rattle.std.proofs.lemmas.List.{take-append-drop}
use Rattle.der_base.proofs.DigitLemmas.{same_length_front}
use Rattle.ber.specs.Header.{IsNext}
use Rattle.ber.specs.Fault.{IsFault}
use Rattle.ber.specs.Element.{IsElement}
use Rattle.ber.specs.declared.fault.Fault.{Fault}
use Rattle.ber.specs.declared.header.Header.{Header}
use Rattle.ber.specs.declared.length.Length.TheVariants.{Definite, Indefinite}
use Rattle.ber.proofs.ListLemmas.{rest_of}
use Rattle.ber.proofs.GrammarLemmas.{one_header, no_header, header_two}

-- an element, and what follows it, are its header, its contents and that
pub opened : {h : Header} {c x octets : List ℕ} (rest : List ℕ) → (is : IsElement h c x) → octets ≡ x ++ rest → octets ≡ is.front ++ (c ++ rest)
opened {c = c} rest is e = e ∙ ap (λ l. l ++ rest) is.spelled ∙ append_assoc is.front c rest

-- no element is a proper prefix of another
pub one_element : {h g : Header} {c d x y : List ℕ} (r s : List ℕ) → IsElement h c x → IsElement g d y → x ++ r ≡ y ++ s → (h ≡ g) × (c ≡ d) × (x ≡ y) × (r ≡ s)
one_element {h} {g} {c} {d} {x} {y} r s p q e =
    let both : p.front ++ (c ++ r) ≡ q.front ++ (d ++ s) = sym (opened r p refl) ∙ e ∙ opened s q refl in
    let one = one_header p.is q.is (c ++ r) (d ++ s) both in
    let lengths : Definite (length c) ≡ Definite (length d) = sym p.counted ∙ ap (λ (i : Header). i.length) one.0 ∙ q.counted in
    let same : length c ≡ length d = cc in
    let tail = same_length_front c d r s same one.2 in
    (one.0, tail.0, p.spelled ∙ ap (λ l. l ++ c) one.1 ∙ ap (λ l. q.front ++ l) tail.0 ∙ sym q.spelled, tail.1)

-- octets with a fault begin with no element
pub no_element_at_fault : {octets : List ℕ} {f : Fault} → IsFault octets f → (h : Header) (c x rest : List ℕ) → IsElement h c x → octets ≡ x ++ rest → ⊥
no_element_at_fault fault h c x rest is e = no_header fault is.is (c ++ rest) (opened rest is e)

-- the header of an element is the one at the front
same_front : {octets : List ℕ} {g : Header} → IsNext g octets → (h : Header) (c x rest : List ℕ) → IsElement h c x → octets ≡ x ++ rest → (g.length ≡ Definite (length c)) × (g.header_len + length c ≤ length octets)
same_front {octets} {g} next h c x rest is e =
    let one = one_header next.is is.is next.rest (c ++ rest) (sym next.split ∙ opened rest is e) in (
      ap (λ (i : Header). i.length) one.0 ∙ is.counted,
      omega (arith, next.is.whole, ap length next.split, length-append next.front next.rest, ap length one.2, length-append c rest),
    )

-- after a header of indefinite length there is no element
pub no_element_indefinite : {octets : List ℕ} {g : Header} → IsNext g octets → g.length ≡ Indefinite → (h : Header) (c x rest : List ℕ) → IsElement h c x → octets ≡ x ++ rest → ⊥
no_element_indefinite {g = g} next i h c x rest is e = let same : Indefinite ≡ Definite (length c) = sym i ∙ (same_front next h c x rest is e).0 in cc

-- where the contents end before the length there is no element
pub no_element_truncated : {octets : List ℕ} {g : Header} (n : ℕ) → IsNext g octets → g.length ≡ Definite n → length octets < g.header_len + n → (h : Header) (c x rest : List ℕ) → IsElement h c x → octets ≡ x ++ rest → ⊥
no_element_truncated n next i short h c x rest is e =
    let r = same_front next h c x rest is e in
    let same : Definite n ≡ Definite (length c) = sym i ∙ r.0 in
    let count : n ≡ length c = cc in
    omega (arith, r.1)

-- the octets after a header
pub after_header : {octets : List ℕ} {h : Header} → (next : IsNext h octets) → drop h.header_len octets ≡ next.rest
after_header {octets} {h} next = ap (drop h.header_len) next.split ∙ drop_at next.front next.rest h.header_len (sym next.is.whole)

-- the header at the front, and the contents after it
pub element_read : (octets : List ℕ) (h : Header) (n : ℕ) → IsNext h octets → h.length ≡ Definite n → n ≤ length (take (length octets - h.header_len) (drop h.header_len octets))
    → (x : List ℕ) × IsElement h (take n (take (length octets - h.header_len) (drop h.header_len octets))) x
    × (octets ≡ x ++ take (length (take (length octets - h.header_len) (drop h.header_len octets)) - n) (drop n (take (length octets - h.header_len) (drop h.header_len octets))))
element_read octets h n next i room =
    let after = take (length octets - h.header_len) (drop h.header_len octets) in
    let here : after ≡ next.rest = rest_of h.header_len octets ∙ after_header next in
    let count : length (take n after) ≡ n = length-take-le n after room in (
      next.front ++ take n after,
      record {
        front = next.front;
        is = next.is;
        counted = i ∙ ap Definite (sym count);
        spelled = refl;
      },
      next.split ∙ ap (λ l. next.front ++ l) (sym here ∙ sym (take-append-drop n after)) ∙ sym (append_assoc next.front (take n after) (drop n after)) ∙ ap (λ l. (next.front ++ take n after) ++ l) (sym (rest_of n after)),
    )

-- what follows an element has at least two octets less
pub rest_shorter : (octets rest : List ℕ) (h : Header) (c x : List ℕ) → IsElement h c x → octets ≡ x ++ rest → length rest + 2 ≤ length octets
rest_shorter octets rest h c x is e = omega (arith, header_two is.is, is.is.whole, ap length is.spelled, length-append is.front c, ap length e, length-append x rest)
