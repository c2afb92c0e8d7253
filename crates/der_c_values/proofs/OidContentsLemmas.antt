-- The octets of subidentifiers, and the arcs that are pushed.
use Rattle.std.proofs.Common.{◌≡◌, ℕ, ◌+◌, ◌/◌, ◌%◌, ◌<◌, ◌≤◌, ⊎_elim, List, [], ◌∷◌, ◌++◌, length, refl, sym, ap, subst, ◌∙◌, append_assoc, length-append, arith}
use Rattle.std.proofs.lemmas.Bool.{cases_lt}
use Rattle.std.proofs.lemmas.Int.Digits.{digits_of_step}
use Rattle.std.specs.Int.Digits.{digits_of}
use Rattle.der.specs.Tag.{continuation_octets}
use Rattle.der.proofs.DigitLemmas.{digits_positive}
use Rattle.der_core.specs.Encode.{high_digits}
use Rattle.der_core.proofs.EncodeLemmas.{continued_push}
use Rattle.der_asn1.specs.Arcs.{subidentifier_octets}

-- the last digit of a subidentifier, after the others with bit 8 set
pub subidentifier_is : (n : ℕ) → subidentifier_octets n ≡ high_digits (n / 128) ++ (n % 128) ∷ []
subidentifier_is n =
    ⊎_elim
    (λ pos. ap continuation_octets (digits_positive 128 n pos ∙ digits_of_step 128 n (omega arith) pos) ∙ continued_push (digits_of 128 (n / 128)) (n % 128))
    (λ none. let zero : 0 ≡ n = omega arith in subst (λ k. subidentifier_octets k ≡ high_digits (k / 128) ++ (k % 128) ∷ []) zero refl)
    (cases_lt 0 n)

-- octets are appended after others
module _ (front middle high all : List ℕ) (o : ℕ) (first : middle ≡ front ++ high) (whole : all ≡ high ++ o ∷ []) where
  pub appended_after : {end : List ℕ} → end ≡ middle ++ o ∷ [] → end ≡ front ++ all
  appended_after second = second ∙ ap (λ l. l ++ o ∷ []) first ∙ append_assoc front high (o ∷ []) ∙ ap (λ l. front ++ l) (sym whole)

  pub no_space_after : 256 ≤ length middle → 256 < length front + length all
  no_space_after full = omega (arith, full, ap length first, length-append front high, ap length whole, length-append high (o ∷ []))

pub no_space_before : (front high all : List ℕ) (o : ℕ) → all ≡ high ++ o ∷ [] → 256 < length front + length high → 256 < length front + length all
no_space_before front high all o whole full = omega (arith, full, ap length whole, length-append high (o ∷ []))
