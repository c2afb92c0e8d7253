-- Lemmas on the identifiers of attributes.
use Rattle.std.proofs.Common.{◌≡◌, ℕ, ◌+◌, ◌*◌, ◌<◌, List, [], ◌∷◌, ◌++◌, refl, ap, subst, ◌∙◌, ⊎_elim, length, slice_index_or, arith}
use Rattle.std.proofs.lemmas.Bool.{cases_lt}
use Rattle.der.proofs.DigitLemmas.{digits_positive, digits_of_push}
use Rattle.der.specs.Length.{digits}
use Rattle.der.specs.Tag.{continuation_octets}
use Rattle.der_asn1.specs.Arcs.{subidentifier_octets}
use Rattle.x509_lint.specs.AttributeChecks.{id_at}

-- a number below 128 has one digit in base 128
single : (o : ℕ) → o < 128 → subidentifier_octets o ≡ o ∷ []
single o h =
    ⊎_elim
    (λ pos.
    let same : 0 * 128 + o ≡ o = omega arith in
    let more : 0 < 0 * 128 + o = omega arith in
    subst (λ k. continuation_octets (digits 128 k) ≡ o ∷ []) same
    (ap continuation_octets (digits_positive 128 (0 * 128 + o) more ∙ digits_of_push 128 0 o (omega arith) h more)))
    (λ none. let zero : o ≡ 0 = omega arith in rw zero refl)
    (cases_lt 0 o)

pub id_at_octets : (n : ℕ) → n < 128 → id_at n ≡ 85 ∷ 4 ∷ n ∷ []
id_at_octets n h = ap (λ l. 85 ∷ 4 ∷ (l ++ [])) (single n h)

-- a list of three numbers
pub three : (l : List ℕ) → length l ≡ 3 → l ≡ slice_index_or l 0 0 ∷ slice_index_or l 1 0 ∷ slice_index_or l 2 0 ∷ []
three [] h = absurd (let no : ⊥ = omega (arith, h) in no)
three (a ∷ []) h = absurd (let no : ⊥ = omega (arith, h) in no)
three (a ∷ b ∷ []) h = absurd (let no : ⊥ = omega (arith, h) in no)
three (a ∷ b ∷ c ∷ []) h = refl
three (a ∷ b ∷ c ∷ d ∷ l) h = absurd (let no : ⊥ = omega (arith, h) in no)
