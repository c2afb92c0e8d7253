-- Octets begin with an identifier or have a fault of one; the same for lengths.
use Rattle.std.proofs.Common.{◌≡◌, ℕ, ◌+◌, ◌-◌, ◌*◌, ◌%◌, ◌^◌, ◌<◌, ◌≤◌, Bool, Option, Some, None, List, [], ◌∷◌, ◌++◌, length, take, drop, refl, sym, ap, ◌∙◌, subst, ⊎_elim, inl, inr, append_assoc, append-nil, arith}
use Rattle.std.proofs.lemmas.Bool.{cases_lt, cases_eq}
use Rattle.std.proofs.lemmas.List.{take-append-drop, length-take-le}
use Rattle.std.proofs.lemmas.Int.Digits.{all_below_base_digits_of}
use Rattle.std.specs.Int.Digits.{number_from_digits, AllBelowBase}
use Rattle.der_base.specs.Length.{length_octets}
use Rattle.der_base.specs.Tag.{universal_tag, IsIdentifier, IdentifierFault}
use Rattle.der_base.specs.Error.{Refusal, refusal}
use Rattle.der_base.specs.HeaderGrammar.{LengthFault, nothing, far, longer}
use Rattle.der_base.specs.declared.tag.Tag.{Tag}
use Rattle.der_base.specs.declared.error.ErrorKind.{ErrorKind}
use Rattle.der_base.specs.declared.encoding_rules.EncodingRules.{EncodingRules}
use Rattle.der_base.specs.declared.encoding_rules.EncodingRules.TheVariants.{Ber, Der}
use Rattle.der_base.proofs.DigitLemmas.{cases_below, digits_positive, number_small}
use Rattle.der_base.proofs.IdentifierLemmas.{universal_identifier, short_identifier, segments_identifier, fault_nothing, fault_universal, fault_above}
use Rattle.der_base.proofs.LongNumberLemmas.{SoFar, so_far_none, so_far_more, number_identifier, number_cut, number_refused_first, number_refused_few, number_refused_many, number_refused_above}
use Rattle.der_base.proofs.LengthLemmas.{least_of, length_small, octet_shortest, octet_cut, octet_longer}

-- octets begin with an identifier, or have a fault of one
pub data IdentifierFront (rules : EncodingRules) (at : ℕ) (octets : List ℕ) : Type 0 where
  found : {id : List ℕ} {t : Tag} {b : Bool} (more : List ℕ) → IsIdentifier rules id t b → octets ≡ id ++ more → IdentifierFront rules at octets
  missing : {r : Refusal} → IdentifierFault rules at octets r → IdentifierFront rules at octets

moved : {rules : EncodingRules} {at : ℕ} {a b : List ℕ} → a ≡ b → IdentifierFront rules at a → IdentifierFront rules at b
moved {rules} {at} e h = subst (λ l. IdentifierFront rules at l) e h

-- after a first octet whose five low bits are set, a number continues, is truncated, or has an
-- error
module _ (rules : EncodingRules) (at o : ℕ) (above : 64 ≤ o) (high : o < 256) (set : o % 32 ≡ 31) where
  number_ends : (s : List ℕ) (v p : ℕ) (rest : List ℕ) → SoFar s v → p < 128 → IdentifierFront rules at (o ∷ (s ++ p ∷ rest))
  number_ends s v p rest h low =
      ⊎_elim
      (λ small. missing (number_refused_few at o v p s rest above high set h low small))
      (λ large. found rest (number_identifier s v o p above high set h low large) (ap (λ l. o ∷ l) (sym (append_assoc s (p ∷ []) rest))))
      (cases_lt (v * 128 + p % 128) 31)

  -- one more octet, and the result if the number continues
  number_octet : (s : List ℕ) (v p : ℕ) (rest : List ℕ) → SoFar s v → (SoFar (s ++ p ∷ []) (v * 128 + p % 128) → IdentifierFront rules at (o ∷ ((s ++ p ∷ []) ++ rest))) → 0 < v * 128 + p % 128 → IdentifierFront rules at (o ∷ (s ++ p ∷ rest))
  number_octet s v p rest h further positive =
      ⊎_elim
      (λ last. number_ends s v p rest h last)
      (λ more. ⊎_elim
      (λ below. ⊎_elim
      (λ fits. moved (ap (λ l. o ∷ l) (append_assoc s (p ∷ []) rest)) (further (so_far_more s v p h more below positive fits)))
      (λ many. missing (number_refused_many at o v p s rest above high set h more below many))
      (cases_lt (v * 128 + p % 128) (2 ^ 25)))
      (λ big. missing (number_refused_above at o v p s rest above high set h big))
      (cases_lt p 256))
      (cases_lt p 128)

  number_front : (s : List ℕ) (v : ℕ) → SoFar s v → (rest : List ℕ) → IdentifierFront rules at (o ∷ (s ++ rest))
  number_front s v h [] = moved (ap (λ l. o ∷ l) (sym (append-nil s))) (missing (number_cut at o v s above high set h))
  number_front s v h (p ∷ rest) =
      let further : 0 < v * 128 + p % 128 → IdentifierFront rules at (o ∷ (s ++ p ∷ rest)) = number_octet s v p rest h (λ g. number_front (s ++ p ∷ []) (v * 128 + p % 128) g rest) in
      ⊎_elim
      (λ nothing_yet. ⊎_elim
      (λ zero. missing (number_refused_first at o v p s rest above high set h nothing_yet zero))
      (λ digit. further (omega arith))
      (cases_eq (p % 128) 0))
      (λ begun. further (omega arith))
      (cases_eq v 0)

-- an octet below `0x40` is a universal tag, octet `0x24` under BER, or an error
low_front : (rules : EncodingRules) (at o : ℕ) (rest : List ℕ) → o < 64 → IdentifierFront rules at (o ∷ rest)
low_front rules at o rest low = go (universal_tag o) refl
  where
    segments : (rules : EncodingRules) → universal_tag o ≡ None → o ≡ 36 → IdentifierFront rules at (o ∷ rest)
    segments Ber e is = found rest (segments_identifier o is) refl
    segments Der e is = missing (fault_universal at o rest low e (inl refl))

    go : (found_tag : Option Tag) → universal_tag o ≡ found_tag → IdentifierFront rules at (o ∷ rest)
    go (Some t) e = found rest (universal_identifier o t e) refl
    go None e = ⊎_elim (segments rules e) (λ other. missing (fault_universal at o rest low e (inr other))) (cases_eq o 36)

pub identifier_or_fault : (rules : EncodingRules) (at : ℕ) (octets : List ℕ) → IdentifierFront rules at octets
identifier_or_fault rules at [] = missing (fault_nothing at)
identifier_or_fault rules at (o ∷ rest) =
    ⊎_elim
    (low_front rules at o rest)
    (λ above. ⊎_elim
    (λ high. ⊎_elim
    (λ short. found rest (short_identifier o above high short) refl)
    (λ set. number_front rules at o above high (omega arith) [] 0 so_far_none rest)
    (cases_lt (o % 32) 31))
    (λ big. missing (fault_above at o rest big))
    (cases_lt o 256))
    (cases_lt o 64)

-- octets begin with octet `0x80`, with a definite length, or have a fault of one
pub data LengthFront (F : ℕ → List ℕ → Refusal → Type 0) (wrong : ErrorKind) (rules : EncodingRules) (at : ℕ) (octets : List ℕ) : Type 0 where
  opens : (rest : List ℕ) → octets ≡ 128 ∷ rest → LengthFront F wrong rules at octets
  counts : (n : ℕ) (rest : List ℕ) → n < 2 ^ 32 → octets ≡ length_octets n ++ rest → LengthFront F wrong rules at octets
  faulty : {r : Refusal} → LengthFault F wrong rules at octets r → LengthFront F wrong rules at octets

module _ (F : ℕ → List ℕ → Refusal → Type 0) (wrong : ErrorKind) (rules : EncodingRules) (at : ℕ) where
  -- digits that are not all octets belong to no length
  no_octets : (k : ℕ) (ds rest : List ℕ) → 1 ≤ k → k ≤ 4 → length ds ≡ k → (AllBelowBase 256 ds → ⊥) → LengthFault F wrong rules at ((128 + k) ∷ (ds ++ rest)) (refusal wrong (at + 1 + k))
  no_octets k ds rest some four size wide =
      longer k ds rest some four size
      (λ n large same. wide (subst (AllBelowBase 256) (sym (same ∙ digits_positive 256 n (omega arith))) (all_below_base_digits_of 256 n (omega arith))))

  -- as many octets as announced, after an octet from `0x81` to `0x84`
  digits_front : (o : ℕ) (ds rest : List ℕ) → 128 < o → o < 133 → length ds ≡ o - 128 → LengthFront F wrong rules at (o ∷ (ds ++ rest))
  digits_front o ds rest low high size =
      ⊎_elim
      (λ below. ⊎_elim
      (λ small. faulty (octet_longer at o ds rest low high size small))
      (λ large. counts (number_from_digits 256 ds) rest (number_small ds (omega arith) below) (ap (λ l. l ++ rest) (sym (octet_shortest o ds low size below large))))
      (cases_lt (number_from_digits 256 ds) (least_of (o - 128))))
      (λ wide. let back : 128 + (o - 128) ≡ o = omega arith in
      subst (λ x. LengthFront F wrong rules at (x ∷ (ds ++ rest))) back (faulty (no_octets (o - 128) ds rest (omega arith) (omega arith) size wide)))
      (cases_below 256 ds)

  pub length_or_fault : (octets : List ℕ) → LengthFront F wrong rules at octets
  length_or_fault [] = faulty nothing
  length_or_fault (o ∷ rest) =
      ⊎_elim
      (λ short. counts o rest (omega arith) (ap (λ l. l ++ rest) (sym (length_small o short))))
      (λ long. ⊎_elim
      (λ opening. opens rest (ap (λ x. x ∷ rest) opening))
      (λ other. ⊎_elim
      (λ near. following (omega arith) near)
      (λ beyond. faulty (far o rest beyond))
      (cases_lt o 133))
      (cases_eq o 128))
      (cases_lt o 128)
    where
      following : 128 < o → o < 133 → LengthFront F wrong rules at (o ∷ rest)
      following low high =
          ⊎_elim
          (λ cut. faulty (octet_cut at o rest (omega arith) high cut))
          (λ enough. subst (λ l. LengthFront F wrong rules at (o ∷ l)) (take-append-drop (o - 128) rest) (digits_front o (take (o - 128) rest) (drop (o - 128) rest) low high (length-take-le (o - 128) rest enough)))
          (cases_lt (length rest) (o - 128))
