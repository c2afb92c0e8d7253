-- Tag numbers in more than one octet, octet by octet.
use Rattle.std.proofs.Common.{◌≡◌, ℕ, suc, ◌+◌, ◌*◌, ◌/◌, ◌%◌, ◌^◌, ◌<◌, ◌≤◌, List, [], ◌∷◌, ◌++◌, length, take, drop, get_or, refl, sym, ap, ◌∙◌, subst, append_assoc, length-append, length-take-le, take-suc, add-one, ⊎_elim, arith}
use Rattle.std.proofs.lemmas.List.{length-map}
use Rattle.std.proofs.Math.Seq.{take-length}
use Rattle.std.proofs.lemmas.Bool.{cases_lt}
use Rattle.std.specs.Int.Digits.{digits_of}
use Rattle.der_base.proofs.DigitLemmas.{digits_of_push}
use Rattle.der_base.proofs.LongNumberLemmas.{SoFar, so_far_more, number_found, continued_digits_push}
use Rattle.ber.specs.Identifier.{continued_digits, IsTagNumber}
use Rattle.ber.specs.Fault.{IsNumberFault, ends, padded, small, large, fault_at, truncated_at}
use Rattle.ber.specs.declared.fault.Fault.{Fault}
use Rattle.ber.specs.declared.fault_kind.FaultKind.TheVariants.{TagNumberPadded, TagNumberTooSmall, TagNumberTooLarge}
use Rattle.ber.proofs.ListLemmas.{around}

-- the first i octets continue a number n
abbrev pub IsSoFar : ℕ → ℕ → List ℕ → Type 0
IsSoFar i n octets = SoFar (take i octets) n

-- a fault at equal octets and an equal offset
fault_same : {s t : List ℕ} {f g : Fault} → s ≡ t → f ≡ g → IsNumberFault t g → IsNumberFault s f
fault_same {s} {t} {f} {g} e h is = subst (λ l. IsNumberFault l f) (sym e) (subst (λ x. IsNumberFault t x) (sym h) is)

-- there is one octet for each digit
count_of : (i n : ℕ) (octets : List ℕ) → i ≤ length octets → IsSoFar i n octets → i ≡ length (digits_of 128 n)
count_of i n octets h so_far = sym (length-take-le i octets h) ∙ ap length so_far.octets ∙ length-map (digits_of 128 n) (λ d. 128 + d)

-- no octets continue the number 0
none_of : (i n : ℕ) (octets : List ℕ) → i ≤ length octets → IsSoFar i n octets → n ≡ 0 → i ≡ 0
none_of i n octets h so_far z = count_of i n octets h so_far ∙ ap (λ m. length (digits_of 128 m)) z

module _ (octets : List ℕ) (i n : ℕ) (h : i < length octets) (so_far : IsSoFar i n octets) where
  -- the octets begin with the one at i, if the number is 0
  first_of : n ≡ 0 → octets ≡ get_or octets i 0 ∷ drop (suc i) octets
  first_of z = around octets i h ∙ ap (λ k. take k octets ++ get_or octets i 0 ∷ drop (suc i) octets) (none_of i n octets (omega arith) so_far z)

  pub number_padded : n ≡ 0 → get_or octets i 0 ≡ 128 → IsNumberFault octets (fault_at TagNumberPadded 1)
  number_padded z e = fault_same (first_of z ∙ ap (λ o. o ∷ drop (suc i) octets) e) refl (padded (drop (suc i) octets))

  pub number_small : get_or octets i 0 < 128 → n * 128 + get_or octets i 0 % 128 < 31 → IsNumberFault octets (fault_at TagNumberTooSmall 1)
  number_small low few = fault_same (first_of (omega arith)) refl (small (get_or octets i 0) (drop (suc i) octets) (omega arith))

  pub number_large : 128 ≤ get_or octets i 0 → get_or octets i 0 < 256 → 2 ^ 25 ≤ n * 128 + get_or octets i 0 % 128 → IsNumberFault octets (fault_at TagNumberTooLarge (i + 1))
  number_large low high many =
      let o = get_or octets i 0 in
      let m = n * 128 + o % 128 in
      let pushed : digits_of 128 m ≡ digits_of 128 n ++ (o % 128) ∷ [] = digits_of_push 128 n (o % 128) (omega arith) (omega arith) (omega arith) in
      let octet : 128 + o % 128 ≡ o = omega arith in
      let begins : continued_digits (digits_of 128 m) ≡ take i octets ++ o ∷ [] =
      ap continued_digits pushed ∙ continued_digits_push (digits_of 128 n) (o % 128) ∙ ap (λ x. continued_digits (digits_of 128 n) ++ x ∷ []) octet ∙ ap (λ l. l ++ o ∷ []) (sym so_far.octets) in
      let count : i + 1 ≡ length (digits_of 128 m) = omega (arith, ap length pushed, length-append (digits_of 128 n) ((o % 128) ∷ []), count_of i n octets (omega arith) so_far) in
      let back : m / 128 < 2 ^ 25 = omega (arith, so_far.small) in
      fault_same (around octets i h ∙ sym (append_assoc (take i octets) (o ∷ []) (drop (suc i) octets)) ∙ ap (λ l. l ++ drop (suc i) octets) (sym begins)) (ap (fault_at TagNumberTooLarge) count) (large m (drop (suc i) octets) many back)

  pub number_read : get_or octets i 0 < 128 → 31 ≤ n * 128 + get_or octets i 0 % 128 → IsTagNumber (n * 128 + get_or octets i 0 % 128) (i + 1) octets
  number_read low many =
      let o = get_or octets i 0 in
      let found = number_found (take i octets) n o so_far low many in
      record {
        large = many;
        small = found.1;
        rest = drop (suc i) octets;
        split = around octets i h ∙ sym (append_assoc (take i octets) (o ∷ []) (drop (suc i) octets)) ∙ ap (λ l. l ++ drop (suc i) octets) found.0;
        count = omega (arith, ap length found.0, length-append (take i octets) (o ∷ []), length-take-le i octets (omega arith));
      }

  pub so_far_next : 128 ≤ get_or octets i 0 → get_or octets i 0 < 256 → (n ≡ 0 → get_or octets i 0 ≡ 128 → ⊥) → n * 128 + get_or octets i 0 % 128 < 2 ^ 25 → IsSoFar (i + 1) (n * 128 + get_or octets i 0 % 128) octets
  so_far_next low high not_padded few =
      let o = get_or octets i 0 in
      let pos : 0 < n * 128 + o % 128 = ⊎_elim (λ a. omega arith) (λ z. let e : n ≡ 0 = omega arith in let other : o ≡ 128 → ⊥ = not_padded e in omega arith) (cases_lt 0 n) in
      subst (λ l. SoFar l (n * 128 + o % 128)) (let next : take i octets ++ o ∷ [] ≡ take (i + 1) octets = sym (ap (λ k. take k octets) (add-one i) ∙ take-suc octets i 0 h) in next) (so_far_more (take i octets) n o so_far low high pos few)

-- the octets end within the number
pub number_ends : (octets : List ℕ) (n : ℕ) → IsSoFar (length octets) n octets → IsNumberFault octets (truncated_at (length octets + 1) (length octets + 3))
number_ends octets n so_far =
    let count = count_of (length octets) n octets (omega arith) so_far in
    fault_same (sym (take-length octets) ∙ so_far.octets) (ap (λ k. truncated_at (k + 1) (k + 3)) count ∙ ap (λ k. truncated_at k (length (digits_of 128 n) + 3)) (let e : length (digits_of 128 n) + 1 ≡ 1 + length (digits_of 128 n) = omega arith in e) ∙ ap (λ k. truncated_at (1 + length (digits_of 128 n)) k) (let e : length (digits_of 128 n) + 3 ≡ 3 + length (digits_of 128 n) = omega arith in e)) (ends n so_far.small)
