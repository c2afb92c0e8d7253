-- Lengths: their octets, what a decoder reads of them, and why octets do not begin with one.
use Rattle.std.proofs.Common.{◌≡◌, ◌≢◌, ℕ, max, ◌+◌, ◌-◌, ◌^◌, ◌<◌, ◌≤◌, false, List, [], ◌∷◌, ◌++◌, length, get_or, refl, sym, ap, ◌∙◌, subst, ⊎_elim, length-append, arith}
use Rattle.std.proofs.lemmas.Bool.{cases_lt, lt-ltb, le-ltb}
use Rattle.std.proofs.lemmas.Int.Digits.{length-digits_of-le, first_digits_of, number_digits_of, number_lt, same_from_digits_of}
use Rattle.std.specs.Int.Digits.{digits_of, number_from_digits, AllBelowBase}
use Rattle.der_base.specs.Length.{definite_length, digits, length_octets}
use Rattle.der_base.specs.Error.{Refusal, refusal, end_refusal}
use Rattle.der_base.specs.Body.{Body}
use Rattle.der_base.specs.HeaderGrammar.{LengthNext, definite, LengthFault, nothing, few, far, longer, indefinite_form, no_body}
use Rattle.der_base.specs.Laws.{IsBodyFault}
use Rattle.der_base.specs.declared.error.ErrorKind.{ErrorKind}
use Rattle.der_base.specs.declared.encoding_rules.EncodingRules.{EncodingRules}
use Rattle.der_base.specs.declared.encoding_rules.EncodingRules.TheVariants.{Ber, Der}
use Rattle.der_base.proofs.DigitLemmas.{same_length_front, digits_positive, length_digits_positive, digits_of_number, number_small, number_at_least}

-- the octet of a length below 128
pub length_small : (n : ℕ) → n < 128 → length_octets n ≡ n ∷ []
length_small n h = rw (lt-ltb n 128 h)

-- the octets of a length from 128 on
pub length_large : (n : ℕ) → 128 ≤ n → length_octets n ≡ (128 + length (digits 256 n)) ∷ digits 256 n
length_large n h = rw (le-ltb n 128 h)

large_of : (n : ℕ) → 128 ≤ n → length_octets n ≡ (128 + length (digits_of 256 n)) ∷ digits_of 256 n
large_of n h = length_large n h ∙ ap (λ l. (128 + length l) ∷ l) (digits_positive 256 n (omega arith))

-- no encoded definite length is a proper prefix of another
pub length_front : (m n : ℕ) (x y : List ℕ) → length_octets m ++ x ≡ length_octets n ++ y → (m ≡ n) × (x ≡ y)
length_front m n x y e =
    ⊎_elim
    (λ a. ⊎_elim
    (λ b. let f : m ∷ x ≡ n ∷ y = ap (λ l. l ++ x) (sym (length_small m a)) ∙ e ∙ ap (λ l. l ++ y) (length_small n b) in (cc, cc))
    (λ b. let f : m ∷ x ≡ (128 + length (digits_of 256 n)) ∷ (digits_of 256 n ++ y) = ap (λ l. l ++ x) (sym (length_small m a)) ∙ e ∙ ap (λ l. l ++ y) (large_of n b) in
    let g : m ≡ 128 + length (digits_of 256 n) = cc in absurd (omega arith))
    (cases_lt n 128))
    (λ a. ⊎_elim
    (λ b. let f : (128 + length (digits_of 256 m)) ∷ (digits_of 256 m ++ x) ≡ n ∷ y = ap (λ l. l ++ x) (sym (large_of m a)) ∙ e ∙ ap (λ l. l ++ y) (length_small n b) in
    let g : 128 + length (digits_of 256 m) ≡ n = cc in absurd (omega arith))
    (λ b. let f : (128 + length (digits_of 256 m)) ∷ (digits_of 256 m ++ x) ≡ (128 + length (digits_of 256 n)) ∷ (digits_of 256 n ++ y) = ap (λ l. l ++ x) (sym (large_of m a)) ∙ e ∙ ap (λ l. l ++ y) (large_of n b) in
    let g : 128 + length (digits_of 256 m) ≡ 128 + length (digits_of 256 n) = cc in
    let t : digits_of 256 m ++ x ≡ digits_of 256 n ++ y = cc in
    let s = same_length_front (digits_of 256 m) (digits_of 256 n) x y (omega (arith, g)) t in
    (same_from_digits_of 256 m n (omega arith) s.0, s.1))
    (cases_lt n 128))
    (cases_lt m 128)

-- octet `0x80` begins no definite length
pub length_definite : (n : ℕ) (x y : List ℕ) → length_octets n ++ x ≡ 128 ∷ y → ⊥
length_definite n x y e =
    ⊎_elim
    (λ a. let f : n ∷ x ≡ 128 ∷ y = ap (λ l. l ++ x) (sym (length_small n a)) ∙ e in let g : n ≡ 128 = cc in omega arith)
    (λ a. let f : (128 + length (digits_of 256 n)) ∷ (digits_of 256 n ++ x) ≡ 128 ∷ y = ap (λ l. l ++ x) (sym (large_of n a)) ∙ e in
    let g : 128 + length (digits_of 256 n) ≡ 128 = cc in omega (arith, length_digits_positive 256 n (omega arith) (omega arith)))
    (cases_lt n 128)

-- a length of 32 bits has at most four octets after the first
pub length_octets_few : (n : ℕ) → n < 2 ^ 32 → length (length_octets n) ≤ 5
length_octets_few n h =
    ⊎_elim
    (λ a. subst (λ l. length l ≤ 5) (sym (length_small n a)) (omega arith))
    (λ a. subst (λ l. length l ≤ 5) (sym (large_of n a)) (omega (arith, length-digits_of-le 256 4 n (omega arith) h)))
    (cases_lt n 128)

-- a length has at least one octet
pub length_octets_some : (n : ℕ) → 1 ≤ length (length_octets n)
length_octets_some n =
    ⊎_elim
    (λ a. subst (λ l. 1 ≤ length l) (sym (length_small n a)) (omega arith))
    (λ a. subst (λ l. 1 ≤ length l) (sym (large_of n a)) (omega arith))
    (cases_lt n 128)

-- the least length that requires k octets after the first
abbrev pub least_of : ℕ → ℕ
least_of k = max 128 (256 ^ (k - 1))

-- one octet below 128 is a length
pub found_short : {rules : EncodingRules} (o : ℕ) (rest : List ℕ) → o < 128 → LengthNext (definite_length o) rules (o ∷ rest) 1
found_short {rules} o rest h =
    subst (λ l. LengthNext (definite_length o) rules (l ++ rest) (length l)) (length_small o h) (definite o rest (omega arith))

-- k octets with a value that requires k octets are its shortest encoding
pub shortest : (k : ℕ) (ds : List ℕ) → 1 ≤ k → length ds ≡ k → AllBelowBase 256 ds → least_of k ≤ number_from_digits 256 ds → length_octets (number_from_digits 256 ds) ≡ (128 + k) ∷ ds
shortest k [] pos n all large = absurd (omega arith)
shortest k (d ∷ ds) pos n all large =
    let z : d ≢ 0 = λ w. let m : length ds ≡ k - 1 = omega arith in
    let small : number_from_digits 256 ds < 256 ^ (k - 1) = subst (λ j. number_from_digits 256 ds < 256 ^ j) m (number_lt 256 ds all.1) in
    let zero_first : number_from_digits 256 (d ∷ ds) ≡ number_from_digits 256 ds = ap (λ x. number_from_digits 256 (x ∷ ds)) w in
    omega (arith, small, zero_first, large) in
    let same : digits_of 256 (number_from_digits 256 (d ∷ ds)) ≡ d ∷ ds = digits_of_number 256 d ds (omega arith) z all in
    large_of (number_from_digits 256 (d ∷ ds)) (omega arith) ∙ ap (λ x. (128 + length x) ∷ x) same ∙ ap (λ x. (128 + x) ∷ d ∷ ds) n

-- an octet from 129 to 132 followed by the announced octets, whose value requires them all, is a
-- length
pub found_long : {rules : EncodingRules} (k : ℕ) (ds rest : List ℕ) → 1 ≤ k → k ≤ 4 → length ds ≡ k → AllBelowBase 256 ds → least_of k ≤ number_from_digits 256 ds → LengthNext (definite_length (number_from_digits 256 ds)) rules ((128 + k) ∷ (ds ++ rest)) (1 + k)
found_long {rules} k ds rest pos four n all large =
    let size : length ((128 + k) ∷ ds) ≡ 1 + k = omega arith in
    subst (λ m. LengthNext (definite_length (number_from_digits 256 ds)) rules ((128 + k) ∷ (ds ++ rest)) m) size
    (subst (λ l. LengthNext (definite_length (number_from_digits 256 ds)) rules (l ++ rest) (length l)) (shortest k ds pos n all large)
    (definite (number_from_digits 256 ds) rest (number_small ds (omega arith) all)))

at_least_power : (k : ℕ) (ds : List ℕ) → 1 ≤ k → length ds ≡ k → get_or ds 0 0 ≢ 0 → 256 ^ (k - 1) ≤ number_from_digits 256 ds
at_least_power k [] pos n z = absurd (omega arith)
at_least_power k (d ∷ ds) pos n z = let m : length ds ≡ k - 1 = omega arith in subst (λ j. 256 ^ j ≤ number_from_digits 256 (d ∷ ds)) m (number_at_least d ds z)

-- k octets with a smaller value are not the digits of a length
pub not_shortest : (k : ℕ) (ds : List ℕ) → 1 ≤ k → length ds ≡ k → number_from_digits 256 ds < least_of k → (n : ℕ) → 128 ≤ n → ds ≢ digits 256 n
not_shortest k ds pos size small n large w =
    let same : ds ≡ digits_of 256 n = w ∙ digits_positive 256 n (omega arith) in
    let v : number_from_digits 256 ds ≡ n = ap (number_from_digits 256) same ∙ number_digits_of 256 n (omega arith) in
    let z : get_or ds 0 0 ≢ 0 = omega (arith, first_digits_of 256 n (omega arith) (omega arith), ap (λ l. get_or l 0 0) same) in
    omega (arith, at_least_power k ds pos size z, v)

-- k octets with a smaller value are an error
pub fault_longer : {F : ℕ → List ℕ → Refusal → Type 0} {wrong : ErrorKind} {rules : EncodingRules} (at k : ℕ) (ds rest : List ℕ) → 1 ≤ k → k ≤ 4 → length ds ≡ k → number_from_digits 256 ds < least_of k → LengthFault F wrong rules at ((128 + k) ∷ (ds ++ rest)) (refusal wrong (at + 1 + k))
fault_longer at k ds rest pos four n small = longer k ds rest pos four n (not_shortest k ds pos n small)

-- the first octet from the number of digits that it announces
count_back : (o : ℕ) → 128 ≤ o → 128 + (o - 128) ≡ o
count_back o h = omega arith

-- the octets of a length, given the first octet
pub octet_shortest : (o : ℕ) (ds : List ℕ) → 128 < o → length ds ≡ o - 128 → AllBelowBase 256 ds → least_of (o - 128) ≤ number_from_digits 256 ds → length_octets (number_from_digits 256 ds) ≡ o ∷ ds
octet_shortest o ds low n all large = shortest (o - 128) ds (omega arith) n all large ∙ ap (λ x. x ∷ ds) (count_back o (omega arith))

-- too few octets after the first octet o
pub octet_cut : {F : ℕ → List ℕ → Refusal → Type 0} {wrong : ErrorKind} {rules : EncodingRules} (at o : ℕ) (ds : List ℕ) → 128 ≤ o → o < 133 → length ds < o - 128 → LengthFault F wrong rules at (o ∷ ds) (end_refusal (at + 1 + length ds))
octet_cut {F} {wrong} {rules} at o ds low high short =
    subst (λ x. LengthFault F wrong rules at (x ∷ ds) (end_refusal (at + 1 + length ds))) (count_back o low) (few (o - 128) ds (omega arith) short)

-- a value that requires fewer octets after the first octet o
pub octet_longer : {F : ℕ → List ℕ → Refusal → Type 0} {wrong : ErrorKind} {rules : EncodingRules} (at o : ℕ) (ds rest : List ℕ) → 128 < o → o < 133 → length ds ≡ o - 128 → number_from_digits 256 ds < least_of (o - 128) → LengthFault F wrong rules at (o ∷ (ds ++ rest)) (refusal wrong (at + 1 + (o - 128)))
octet_longer {F} {wrong} {rules} at o ds rest low high n small =
    subst (λ x. LengthFault F wrong rules at (x ∷ (ds ++ rest)) (refusal wrong (at + 1 + (o - 128)))) (count_back o (omega arith)) (fault_longer at (o - 128) ds rest (omega arith) (omega arith) n small)

-- a definite length of 32 bits has no fault
pub no_definite_fault : {F : ℕ → List ℕ → Refusal → Type 0} {wrong : ErrorKind} {at : ℕ} {rules : EncodingRules} {s : List ℕ} {r : Refusal} (n : ℕ) (t : List ℕ) → n < 2 ^ 32 → LengthFault F wrong rules at s r → s ≡ length_octets n ++ t → ⊥
no_definite_fault n t h f e = ⊎_elim (λ a. small n t a f (e ∙ ap (λ l. l ++ t) (length_small n a))) (λ a. large n t h a f (e ∙ ap (λ l. l ++ t) (large_of n a))) (cases_lt n 128)
  where
    small : {F : ℕ → List ℕ → Refusal → Type 0} {wrong : ErrorKind} {at : ℕ} {rules : EncodingRules} {s : List ℕ} {r : Refusal} (n : ℕ) (t : List ℕ) → n < 128 → LengthFault F wrong rules at s r → s ≡ n ∷ t → ⊥
    small n t a nothing e = cc
    small n t a (few k ds p q) e = let f : 128 + k ≡ n = cc in omega arith
    small n t a (far o rest p) e = let f : o ≡ n = cc in omega arith
    small n t a (longer k ds rest p q s u) e = let f : 128 + k ≡ n = cc in omega arith
    small n t a (indefinite_form der rest) e = let f : 128 ≡ n = cc in omega arith
    small n t a (no_body ber rest g) e = let f : 128 ≡ n = cc in omega arith

    large : {F : ℕ → List ℕ → Refusal → Type 0} {wrong : ErrorKind} {at : ℕ} {rules : EncodingRules} {s : List ℕ} {r : Refusal} (n : ℕ) (t : List ℕ) → n < 2 ^ 32 → 128 ≤ n → LengthFault F wrong rules at s r → s ≡ (128 + length (digits_of 256 n)) ∷ (digits_of 256 n ++ t) → ⊥
    large n t h a nothing e = cc
    large n t h a (few k ds p q) e =
        let f : 128 + k ≡ 128 + length (digits_of 256 n) = cc in
        let g : ds ≡ digits_of 256 n ++ t = cc in
        omega (arith, simp length-append at (ap length g))
    large n t h a (far o rest p) e = let f : o ≡ 128 + length (digits_of 256 n) = cc in omega (arith, length-digits_of-le 256 4 n (omega arith) h)
    large n t h a (longer k ds rest p q s u) e =
        let f : 128 + k ≡ 128 + length (digits_of 256 n) = cc in
        let g : ds ++ rest ≡ digits_of 256 n ++ t = cc in
        let m : length ds ≡ length (digits_of 256 n) = omega arith in
        u n a ((same_length_front ds (digits_of 256 n) rest t m g).0 ∙ sym (digits_positive 256 n (omega arith)))
    large n t h a (indefinite_form der rest) e = let f : 128 ≡ 128 + length (digits_of 256 n) = cc in omega (arith, length_digits_positive 256 n (omega arith) (omega arith))
    large n t h a (no_body ber rest g) e = let f : 128 ≡ 128 + length (digits_of 256 n) = cc in omega (arith, length_digits_positive 256 n (omega arith) (omega arith))

-- under BER octet `0x80` followed by a body has no fault
pub no_open_fault : {F : ℕ → List ℕ → Refusal → Type 0} → IsBodyFault F → {wrong : ErrorKind} {at parts : ℕ} {rules : EncodingRules} {s body : List ℕ} {r : Refusal} → Body 1 parts body → (t : List ℕ) → rules ≡ Ber → LengthFault F wrong rules at s r → s ≡ 128 ∷ (body ++ t) → ⊥
no_open_fault laws d t b nothing e = cc
no_open_fault laws d t b (few k ds p q) e = let f : 128 + k ≡ 128 = cc in omega arith
no_open_fault laws d t b (far o rest p) e = let f : o ≡ 128 = cc in omega arith
no_open_fault laws d t b (longer k ds rest p q s u) e = let f : 128 + k ≡ 128 = cc in omega arith
no_open_fault laws d t b (indefinite_form der rest) e = let no : Der ≡ Ber = sym der ∙ b in cc
no_open_fault {F} laws {at = at} {parts = parts} {body = body} d t b (no_body {r = r} ber rest g) e =
    let f : rest ≡ body ++ t = cc in
    laws.never_both (at + 1) parts body t r d (subst (λ l. F (at + 1) l r) f g)

-- octets have at most one fault of a length
pub one_length_fault : {F : ℕ → List ℕ → Refusal → Type 0} → IsBodyFault F → {wrong : ErrorKind} {at : ℕ} {rules : EncodingRules} {s t : List ℕ} {r q : Refusal} → LengthFault F wrong rules at s r → LengthFault F wrong rules at t q → s ≡ t → r ≡ q
one_length_fault laws nothing nothing e = refl
one_length_fault laws nothing (few k ds p q) e = cc
one_length_fault laws nothing (far o rest p) e = cc
one_length_fault laws nothing (longer k ds rest p q u v) e = cc
one_length_fault laws nothing (indefinite_form der rest) e = cc
one_length_fault laws (few k ds p q) nothing e = cc
one_length_fault laws {at = at} (few k ds p q) (few j es u v) e = let f : ds ≡ es = cc in ap (λ l. end_refusal (at + 1 + length l)) f
one_length_fault laws (few k ds p q) (far o rest u) e = let f : 128 + k ≡ o = cc in absurd (omega arith)
one_length_fault laws (few k es p q) (longer j ds rest u v w z) e =
    let f : 128 + k ≡ 128 + j = cc in
    let g : es ≡ ds ++ rest = cc in absurd (omega (arith, ap length g, length-append ds rest))
one_length_fault laws (few k ds p q) (indefinite_form der rest) e = let f : 128 + k ≡ 128 = cc in absurd (omega arith)
one_length_fault laws (far o rest p) nothing e = cc
one_length_fault laws (far o rest u) (few k ds p q) e = let f : o ≡ 128 + k = cc in absurd (omega arith)
one_length_fault laws (far o rest p) (far u more q) e = refl
one_length_fault laws (far o rest p) (longer j ds more u v w z) e = let f : o ≡ 128 + j = cc in absurd (omega arith)
one_length_fault laws (far o rest p) (indefinite_form is more) e = let f : o ≡ 128 = cc in absurd (omega arith)
one_length_fault laws (longer k ds rest p q u v) nothing e = cc
one_length_fault laws (longer j ds rest u v w z) (few k es p q) e =
    let f : 128 + k ≡ 128 + j = cc in
    let g : es ≡ ds ++ rest = cc in absurd (omega (arith, ap length g, length-append ds rest))
one_length_fault laws (longer j ds rest u v w z) (far o more p) e = let f : o ≡ 128 + j = cc in absurd (omega arith)
one_length_fault laws {wrong = wrong} {at = at} (longer j ds rest u v w z) (longer i es more p q s t) e = let f : 128 + j ≡ 128 + i = cc in let g : at + 1 + j ≡ at + 1 + i = omega arith in ap (refusal wrong) g
one_length_fault laws (longer j ds rest u v w z) (indefinite_form is more) e = let f : 128 + j ≡ 128 = cc in absurd (omega arith)
one_length_fault laws (indefinite_form der rest) nothing e = cc
one_length_fault laws (indefinite_form der rest) (few k ds p q) e = let f : 128 ≡ 128 + k = cc in absurd (omega arith)
one_length_fault laws (indefinite_form der rest) (far o more p) e = let f : 128 ≡ o = cc in absurd (omega arith)
one_length_fault laws (indefinite_form der rest) (longer k ds more p q u v) e = let f : 128 ≡ 128 + k = cc in absurd (omega arith)
one_length_fault laws (indefinite_form der rest) (indefinite_form is more) e = refl
one_length_fault laws (indefinite_form der rest) (no_body ber more g) e = let no : Der ≡ Ber = sym der ∙ ber in cc
one_length_fault laws nothing (no_body ber rest g) e = cc
one_length_fault laws (few k ds p q) (no_body ber rest g) e = let f : 128 + k ≡ 128 = cc in absurd (omega arith)
one_length_fault laws (far o rest p) (no_body ber more g) e = let f : o ≡ 128 = cc in absurd (omega arith)
one_length_fault laws (longer j ds rest u v w z) (no_body ber more g) e = let f : 128 + j ≡ 128 = cc in absurd (omega arith)
one_length_fault laws (no_body ber rest g) nothing e = cc
one_length_fault laws (no_body ber rest g) (few k ds p q) e = let f : 128 ≡ 128 + k = cc in absurd (omega arith)
one_length_fault laws (no_body ber rest g) (far o more p) e = let f : 128 ≡ o = cc in absurd (omega arith)
one_length_fault laws (no_body ber rest g) (longer k ds more p q u v) e = let f : 128 ≡ 128 + k = cc in absurd (omega arith)
one_length_fault laws (no_body ber rest g) (indefinite_form der more) e = let no : Der ≡ Ber = sym der ∙ ber in cc
one_length_fault {F} laws {at = at} (no_body {r = r} ber rest g) (no_body {r = q} is more h) e =
    let f : more ≡ rest = cc in
    ap (λ (z : Refusal). record z { position = at + 1; fails = false }) (laws.one_fault (at + 1) rest r q g (subst (λ l. F (at + 1) l q) f h))
