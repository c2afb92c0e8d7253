-- A tag number of 31 or more, octet by octet, and the octets with which none continues.
use Rattle.std.proofs.Common.{◌≡◌, ◌≢◌, ℕ, ◌+◌, ◌-◌, ◌*◌, ◌/◌, ◌%◌, ◌^◌, ◌<◌, ◌≤◌, ◌⊎◌, List, [], ◌∷◌, ◌++◌, map, length, get_or, refl, sym, ap, ◌∙◌, ⊎_elim, inl, inr, append_assoc, arith}
use Rattle.std.proofs.lemmas.Bool.{cases_lt}
use Rattle.std.proofs.lemmas.Int.Digits.{first_digits_of, number_digits_of, number_push, number_after_append, number_after_ge, all_below_base_digits_of}
use Rattle.std.specs.Int.Digits.{digits_of, number_from_digits, number_from_digits_after, AllBelowBase}
use Rattle.der_base.specs.Length.{digits}
use Rattle.der_base.specs.Tag.{label, label_of, leading_octet, is_constructed, other_tag, continuation_octets, IsIdentifier, IsCutIdentifier, IdentifierFault, cut, refused}
use Rattle.der_base.specs.Error.{refusal, end_refusal}
use Rattle.der_base.specs.declared.encoding_rules.EncodingRules.{EncodingRules}
use Rattle.der_base.specs.declared.error.ErrorKind.TheVariants.{TagNumberInvalid}
use Rattle.der_base.proofs.DigitLemmas.{digits_positive, length_digits_positive, digits_of_push}
use Rattle.der_base.proofs.TagLemmas.{label_small, label_large, octet_parts, octet_back}
use Rattle.der_base.proofs.IdentifierLemmas.{BeginsNoIdentifier, none_with, IdentifierView, tagged, segmented, identifier_view, identifier_at, long_identifier}

-- digits that are followed by more digits
abbrev pub continued_digits : List ℕ → List ℕ
continued_digits = map (λ d. 128 + d)

-- the last digit, after digits that continue
pub continued_push : (ds : List ℕ) (d : ℕ) → continuation_octets (ds ++ d ∷ []) ≡ continued_digits ds ++ d ∷ []
continued_push [] d = refl
continued_push (c ∷ []) d = refl
continued_push (c ∷ b ∷ ds) d = ap (λ l. (128 + c) ∷ l) (continued_push (b ∷ ds) d)

-- one more digit that continues
pub continued_digits_push : (ds : List ℕ) (d : ℕ) → continued_digits (ds ++ d ∷ []) ≡ continued_digits ds ++ (128 + d) ∷ []
continued_digits_push [] d = refl
continued_digits_push (c ∷ ds) d = ap (λ l. (128 + c) ∷ l) (continued_digits_push ds d)

-- octets that begin with digits that continue consist of these and more
continued_begins : (es ds more : List ℕ) → 0 < length es → AllBelowBase 128 es → continuation_octets es ≡ continued_digits ds ++ more → (r : List ℕ) × (es ≡ ds ++ r) × (0 < length r) × AllBelowBase 128 r × (continuation_octets r ≡ more)
continued_begins [] ds more pos all e = absurd (omega arith)
continued_begins (d ∷ es) [] more pos all e = (d ∷ es, refl, pos, all, e)
continued_begins (d ∷ []) (c ∷ ds) more pos all e = let f : d ≡ 128 + c = cc in absurd (omega (arith, all.0))
continued_begins (d ∷ b ∷ es) (c ∷ ds) more pos all e =
    let f : 128 + d ≡ 128 + c = cc in
    let g : continuation_octets (b ∷ es) ≡ continued_digits ds ++ more = cc in
    let same : d ≡ c = omega arith in
    let r = continued_begins (b ∷ es) ds more (omega arith) all.1 g in
    (r.0, ap (λ l. d ∷ l) r.1 ∙ ap (λ x. x ∷ (ds ++ r.0)) same, r.2, r.3, r.4)

-- the last octet of a number is below 128, and every other one is 128 or more
last_octet : (r : List ℕ) (o : ℕ) (more : List ℕ) → 0 < length r → AllBelowBase 128 r → continuation_octets r ≡ o ∷ more → ((o < 128) × (r ≡ o ∷ [])) ⊎ ((128 ≤ o) × (e : ℕ) × (t : List ℕ) × (r ≡ (o - 128) ∷ e ∷ t))
last_octet [] o more pos all e = absurd (omega arith)
last_octet (d ∷ []) o more pos all e = let f : d ≡ o = cc in inl (omega (arith, all.0), ap (λ x. x ∷ []) f)
last_octet (d ∷ c ∷ r) o more pos all e =
    let f : 128 + d ≡ o = cc in
    let g : d ≡ o - 128 = omega arith in
    inr (omega arith, c, r, ap (λ x. x ∷ c ∷ r) g)

-- the octets so far are those of a number below 2 ^ 25 that continues
pub record SoFar (s : List ℕ) (v : ℕ) : Type 0 where
  pub octets : s ≡ continued_digits (digits_of 128 v)
  pub small : v < 2 ^ 25

-- no octets so far
pub so_far_none : SoFar [] 0
so_far_none = record { octets = refl; small = omega arith }

-- one more octet that continues; the first does not begin the number with a zero digit
pub so_far_more : (s : List ℕ) (v p : ℕ) → SoFar s v → 128 ≤ p → p < 256 → 0 < v * 128 + p % 128 → v * 128 + p % 128 < 2 ^ 25 → SoFar (s ++ p ∷ []) (v * 128 + p % 128)
so_far_more s v p h low high pos small =
    let octet : 128 + p % 128 ≡ p = omega arith in
    record {
      octets = ap (λ l. l ++ p ∷ []) h.octets ∙ ap (λ x. continued_digits (digits_of 128 v) ++ x ∷ []) (sym octet) ∙ sym (continued_digits_push (digits_of 128 v) (p % 128)) ∙ ap continued_digits (sym (digits_of_push 128 v (p % 128) (omega arith) (omega arith) pos));
      small = small;
    }

-- the last octet, below 128
pub so_far_last : (s : List ℕ) (v p : ℕ) → SoFar s v → p < 128 → 0 < v * 128 + p % 128 → s ++ p ∷ [] ≡ continuation_octets (digits 128 (v * 128 + p % 128))
so_far_last s v p h low pos =
    let octet : p % 128 ≡ p = omega arith in
    sym (ap continuation_octets (digits_positive 128 (v * 128 + p % 128) pos ∙ digits_of_push 128 v (p % 128) (omega arith) (omega arith) pos)
    ∙ continued_push (digits_of 128 v) (p % 128)
    ∙ ap (λ l. l ++ (p % 128) ∷ []) (sym h.octets)
    ∙ ap (λ x. s ++ x ∷ []) octet)

-- a number of 31 or more is complete at its last octet
pub number_found : (s : List ℕ) (v p : ℕ) → SoFar s v → p < 128 → 31 ≤ v * 128 + p % 128 → (s ++ p ∷ [] ≡ continuation_octets (digits 128 (v * 128 + p % 128))) × (v * 128 + p % 128 < 2 ^ 32)
number_found s v p h low large = (so_far_last s v p h low (omega arith), omega (arith, h.small))

-- its first octet, the octets so far and the last are its identifier
pub number_identifier : {rules : EncodingRules} (s : List ℕ) (v o p : ℕ) → 64 ≤ o → o < 256 → o % 32 ≡ 31 → SoFar s v → p < 128 → 31 ≤ v * 128 + p % 128 → IsIdentifier rules (o ∷ (s ++ p ∷ [])) (other_tag o (v * 128 + p % 128)) (is_constructed o)
number_identifier s v o p above high set h low large =
    let f = number_found s v p h low large in
    identifier_at (ap (λ l. o ∷ l) (sym f.0)) refl (long_identifier o (v * 128 + p % 128) above high set large f.1)

-- octets of a truncated number: a proper prefix of one from 31 on below 2 ^ 32
IsCutNumber : List ℕ → Type 0
IsCutNumber s = (n o : ℕ) × (more : List ℕ) × (31 ≤ n) × (n < 2 ^ 32) × (continuation_octets (digits 128 n) ≡ s ++ o ∷ more)

BeginsNoNumber : List ℕ → Type 0
BeginsNoNumber s = (n : ℕ) (more : List ℕ) → 31 ≤ n → n < 2 ^ 32 → continuation_octets (digits 128 n) ≢ s ++ more

so_far_cut : (s : List ℕ) (v : ℕ) → SoFar s v → IsCutNumber s
unfolding IsCutNumber
so_far_cut s v h =
    let pos : 0 < v * 128 + 127 = omega arith in (
      v * 128 + 127,
      127,
      [],
      omega arith,
      omega (arith, h.small),
      ap continuation_octets (digits_positive 128 (v * 128 + 127) pos ∙ digits_of_push 128 v 127 (omega arith) (omega arith) pos) ∙ continued_push (digits_of 128 v) 127 ∙ ap (λ l. l ++ 127 ∷ []) (sym h.octets),
    )

-- a number that continues with this octet
module _ (s : List ℕ) (v p : ℕ) (h : SoFar s v) where
  continues : (n : ℕ) (more : List ℕ) → 31 ≤ n → continuation_octets (digits 128 n) ≡ (s ++ p ∷ []) ++ more → (r : List ℕ) × (digits_of 128 n ≡ digits_of 128 v ++ r) × (0 < length r) × AllBelowBase 128 r × (continuation_octets r ≡ p ∷ more)
  continues n more large e =
      continued_begins (digits_of 128 n) (digits_of 128 v) (p ∷ more) (length_digits_positive 128 n (omega arith) (omega arith)) (all_below_base_digits_of 128 n (omega arith))
      (ap continuation_octets (sym (digits_positive 128 n (omega arith))) ∙ e ∙ append_assoc s (p ∷ []) more ∙ ap (λ l. l ++ p ∷ more) h.octets)

  -- no number begins with 0
  none_from_zero : v ≡ 0 → p % 128 ≡ 0 → BeginsNoNumber (s ++ p ∷ [])
  unfolding BeginsNoNumber
  none_from_zero z q n more large small e =
      let g = continues n more large e in
      let same : digits_of 128 n ≡ g.0 = g.1 ∙ ap (λ x. digits_of 128 x ++ g.0) z in
      let pos = first_digits_of 128 n (omega arith) (omega arith) in
      ⊎_elim
      (λ a. omega (arith, a.0, pos, ap (λ l. get_or l 0 0) same, ap (λ l. get_or l 0 0) a.1))
      (λ a. omega (arith, pos, ap (λ l. get_or l 0 0) same, ap (λ l. get_or l 0 0) a.3, a.0, first_small g.0 g.2 g.3))
      (last_octet g.0 p more g.2 g.3 g.4)
    where
      first_small : (r : List ℕ) → 0 < length r → AllBelowBase 128 r → get_or r 0 0 < 128
      first_small [] p a = absurd (omega arith)
      first_small (x ∷ xs) p a = a.0

  -- no number is below 31
  none_from_few : p < 128 → v * 128 + p % 128 < 31 → BeginsNoNumber (s ++ p ∷ [])
  unfolding BeginsNoNumber
  none_from_few low few n more large small e =
      let g = continues n more large e in
      ⊎_elim
      (λ a. let value : n ≡ v * 128 + p = sym (number_digits_of 128 n (omega arith)) ∙ ap (number_from_digits 128) (g.1 ∙ ap (λ l. digits_of 128 v ++ l) a.1) ∙ number_push 128 (digits_of 128 v) p ∙ ap (λ x. x * 128 + p) (number_digits_of 128 v (omega arith)) in omega arith)
      (λ a. omega (arith, a.0))
      (last_octet g.0 p more g.2 g.3 g.4)

  -- no number has more than 32 bits
  none_from_many : 128 ≤ p → p < 256 → 2 ^ 25 ≤ v * 128 + p % 128 → BeginsNoNumber (s ++ p ∷ [])
  unfolding BeginsNoNumber
  none_from_many low high many n more large small e =
      let g = continues n more large e in
      ⊎_elim
      (λ a. omega (arith, a.0))
      (λ a.
      let value : n ≡ number_from_digits_after 128 ((v * 128 + (p - 128)) * 128 + a.1) a.2 =
      sym (number_digits_of 128 n (omega arith)) ∙ ap (number_from_digits 128) (g.1 ∙ ap (λ l. digits_of 128 v ++ l) a.3)
      ∙ number_after_append 128 0 (digits_of 128 v) ((p - 128) ∷ a.1 ∷ a.2)
      ∙ ap (λ x. number_from_digits_after 128 ((x * 128 + (p - 128)) * 128 + a.1) a.2) (number_digits_of 128 v (omega arith)) in
      omega (arith, value, number_after_ge 128 ((v * 128 + (p - 128)) * 128 + a.1) a.2 (omega arith)))
      (last_octet g.0 p more g.2 g.3 g.4)

-- a first octet that is followed by a number
module _ (rules : EncodingRules) (o : ℕ) (above : 64 ≤ o) (high : o < 256) (set : o % 32 ≡ 31) where
  truncated_after_first : (s : List ℕ) → IsCutNumber s → IsCutIdentifier rules (o ∷ s)
  unfolding IsCutNumber
  truncated_after_first s (n, d, more, large, small, e) =
      (d, more, other_tag o n, is_constructed o, identifier_at (ap (λ l. o ∷ l) e) refl (long_identifier o n above high set large small))

  none_after_first : (s : List ℕ) → BeginsNoNumber s → BeginsNoIdentifier rules (o ∷ s)
  unfolding BeginsNoNumber
  none_after_first s none more t b h = go (identifier_view h)
    where
      go : IdentifierView rules (o ∷ (s ++ more)) t b → ⊥
      go (segmented k e f g) = let m : o ≡ 36 = cc in omega arith
      go (tagged k e f) =
          ⊎_elim
          (λ a.
          let m : o ∷ (s ++ more) ≡ leading_octet (label t) (label t).number ∷ [] = e ∙ label_small (label t) a in
          let head : o ≡ leading_octet (label t) (label t).number = cc in
          let l = label_of (o / 64) (is_constructed o) 0 in
          let parts = octet_parts (label t) l (label t).number (o % 32) (omega arith) (omega arith) (sym head ∙ sym (octet_back o 0)) in
          omega (arith, parts.2))
          (λ a.
          let m : o ∷ (s ++ more) ≡ leading_octet (label t) 31 ∷ continuation_octets (digits 128 (label t).number) = e ∙ label_large (label t) a in
          let tail : continuation_octets (digits 128 (label t).number) ≡ s ++ more = cc in
          none (label t).number more a k tail)
          (cases_lt (label t).number 31)

  number_refused : (at : ℕ) (s : List ℕ) (v p : ℕ) (rest : List ℕ) → SoFar s v → BeginsNoNumber (s ++ p ∷ []) → IdentifierFault rules at (o ∷ (s ++ p ∷ rest)) (refusal TagNumberInvalid (at + length (o ∷ s) + 1))
  number_refused at s v p rest h none = refused (o ∷ s) p rest (truncated_after_first s (so_far_cut s v h)) (none_after_first (s ++ p ∷ []) none)

-- a number that continues, and no octet after it
pub number_cut : {rules : EncodingRules} (at o v : ℕ) (s : List ℕ) → 64 ≤ o → o < 256 → o % 32 ≡ 31 → SoFar s v → IdentifierFault rules at (o ∷ s) (end_refusal (at + length (o ∷ s)))
number_cut {rules} at o v s above high set h = cut (o ∷ s) (truncated_after_first rules o above high set s (so_far_cut s v h))

-- a number that begins with a zero digit is an error
pub number_refused_first : {rules : EncodingRules} (at o v p : ℕ) (s rest : List ℕ) → 64 ≤ o → o < 256 → o % 32 ≡ 31 → SoFar s v → v ≡ 0 → p % 128 ≡ 0 → IdentifierFault rules at (o ∷ (s ++ p ∷ rest)) (refusal TagNumberInvalid (at + length (o ∷ s) + 1))
number_refused_first {rules} at o v p s rest above high set h z q = number_refused rules o above high set at s v p rest h (none_from_zero s v p h z q)

-- a complete number below 31 is an error
pub number_refused_few : {rules : EncodingRules} (at o v p : ℕ) (s rest : List ℕ) → 64 ≤ o → o < 256 → o % 32 ≡ 31 → SoFar s v → p < 128 → v * 128 + p % 128 < 31 → IdentifierFault rules at (o ∷ (s ++ p ∷ rest)) (refusal TagNumberInvalid (at + length (o ∷ s) + 1))
number_refused_few {rules} at o v p s rest above high set h low few = number_refused rules o above high set at s v p rest h (none_from_few s v p h low few)

-- a number that continues from 2 ^ 25 or more would exceed 32 bits, and is an error
pub number_refused_many : {rules : EncodingRules} (at o v p : ℕ) (s rest : List ℕ) → 64 ≤ o → o < 256 → o % 32 ≡ 31 → SoFar s v → 128 ≤ p → p < 256 → 2 ^ 25 ≤ v * 128 + p % 128 → IdentifierFault rules at (o ∷ (s ++ p ∷ rest)) (refusal TagNumberInvalid (at + length (o ∷ s) + 1))
number_refused_many {rules} at o v p s rest above high set h low small many = number_refused rules o above high set at s v p rest h (none_from_many s v p h low small many)

-- a number from 256 on among its octets is an error
pub number_refused_above : {rules : EncodingRules} (at o v p : ℕ) (s rest : List ℕ) → 64 ≤ o → o < 256 → o % 32 ≡ 31 → SoFar s v → 256 ≤ p → IdentifierFault rules at (o ∷ (s ++ p ∷ rest)) (refusal TagNumberInvalid (at + length (o ∷ s) + 1))
number_refused_above {rules} at o v p s rest above high set h big = refused (o ∷ s) p rest (truncated_after_first rules o above high set s (so_far_cut s v h)) (none_with (o ∷ s) p big)
