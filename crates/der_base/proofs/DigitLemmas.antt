-- Prefixes of lists, and digits of numbers.
use Rattle.std.proofs.Common.{◌≡◌, ◌≢◌, ℕ, suc, ◌+◌, ◌*◌, ◌%◌, ◌^◌, ◌<◌, ◌≤◌, ◌⊎◌, List, [], ◌∷◌, ◌++◌, length, take, drop, refl, sym, ap, ◌∙◌, ⊎_elim, inl, inr, append_assoc, append-nil, arith}
use Rattle.std.proofs.lemmas.Bool.{cases_lt, ne_eqb}
use Rattle.std.proofs.lemmas.List.{take_at, drop_at}
use Rattle.std.proofs.lemmas.Nat.{mul-le, div-mul-add, mod-mul-add}
use Rattle.std.proofs.lemmas.Int.Digits.{digits_of_step, length-digits_of_step, all_below_base_digits_of, same_from_digits_of, number_lt}
use Rattle.std.proofs.Math.Nat.{pow-le-pow_right, pow-suc, mul-le-mul_right}
use Rattle.std.specs.Int.Digits.{digits_of, number_from_digits, number_from_digits_after, AllBelowBase}
use Rattle.der_base.specs.Length.{digits}
use Rattle.der_base.specs.Tag.{continuation_octets}

-- prefixes of equal length of one list are equal, and so is what follows them
pub same_length_front : (a b x y : List ℕ) → length a ≡ length b → a ++ x ≡ b ++ y → (a ≡ b) × (x ≡ y)
same_length_front a b x y l e = (
  sym (take_at a x (length a) refl) ∙ ap (take (length a)) e ∙ take_at b y (length a) (sym l),
  sym (drop_at a x (length a) refl) ∙ ap (drop (length a)) e ∙ drop_at b y (length a) (sym l),
)

-- of two prefixes of one list, one is a prefix of the other
pub two_fronts : (a b x y : List ℕ) → a ++ x ≡ b ++ y → ((t : List ℕ) × (b ≡ a ++ t) × (x ≡ t ++ y)) ⊎ ((o : ℕ) × (t : List ℕ) × (a ≡ b ++ o ∷ t) × (y ≡ o ∷ (t ++ x)))
two_fronts [] b x y e = inl (b, refl, e)
two_fronts (o ∷ a) [] x y e = inr (o, a, refl, sym e)
two_fronts (o ∷ a) (p ∷ b) x y e =
    let h : o ≡ p = cc in
    let t : a ++ x ≡ b ++ y = cc in
    ⊎_elim (λ r. inl (r.0, (let f : b ≡ a ++ r.0 = r.1 in cc), r.2)) (λ r. inr (r.0, r.1, (let f : a ≡ b ++ r.0 ∷ r.1 = r.2 in cc), r.3)) (two_fronts a b x y t)

-- for a number that is not 0 the digits are those of std
pub digits_positive : (b n : ℕ) → 0 < n → digits b n ≡ digits_of b n
digits_positive b n h = let ne : n ≢ 0 = omega arith in rw (ne_eqb n 0 ne)

-- a number that is not 0 has digits
pub length_digits_positive : (b n : ℕ) → 2 ≤ b → 0 < n → 0 < length (digits_of b n)
length_digits_positive b n h p = omega (arith, length-digits_of_step b n h p)

-- one more digit at the end
pub digits_of_push : (b n d : ℕ) → 2 ≤ b → d < b → 0 < n * b + d → digits_of b (n * b + d) ≡ digits_of b n ++ d ∷ []
digits_of_push b n d two below pos =
    digits_of_step b (n * b + d) two pos ∙ ap (λ m. digits_of b m ++ ((n * b + d) % b) ∷ []) (div-mul-add n b d below) ∙ ap (λ m. digits_of b n ++ m ∷ []) (mod-mul-add n b d below)

-- the digits of a number that continues another with more digits
pub digits_of_after : (b n : ℕ) (ds : List ℕ) → 2 ≤ b → 0 < n → AllBelowBase b ds → digits_of b (number_from_digits_after b n ds) ≡ digits_of b n ++ ds
digits_of_after b n [] two pos all = sym (append-nil (digits_of b n))
digits_of_after b n (d ∷ ds) two pos all =
    let more : 0 < n * b + d = omega (arith, mul-le 1 2 n b pos two) in
    digits_of_after b (n * b + d) ds two more all.1 ∙ ap (λ l. l ++ ds) (digits_of_push b n d two all.0 more) ∙ append_assoc (digits_of b n) (d ∷ []) ds

-- digits that do not begin with 0 are those of their number
pub digits_of_number : (b d : ℕ) (ds : List ℕ) → 2 ≤ b → d ≢ 0 → AllBelowBase b (d ∷ ds) → digits_of b (number_from_digits b (d ∷ ds)) ≡ d ∷ ds
digits_of_number b d ds two ne all =
    let pos : 0 < 0 * b + d = omega arith in
    digits_of_after b (0 * b + d) ds two pos all.1 ∙ ap (λ l. l ++ ds) (digits_of_push b 0 d two all.0 pos)

-- one more digit below the base at the end
pub all_below_push : (b : ℕ) (ds : List ℕ) (d : ℕ) → AllBelowBase b ds → d < b → AllBelowBase b (ds ++ d ∷ [])
all_below_push b [] d h l = (l, tt)
all_below_push b (x ∷ xs) d h l = (h.0, all_below_push b xs d h.1 l)

-- each digit is below the base
pub below_among : (b : ℕ) (s : List ℕ) (d : ℕ) (t : List ℕ) → AllBelowBase b (s ++ d ∷ t) → d < b
below_among b [] d t h = h.0
below_among b (x ∷ s) d t h = below_among b s d t h.1

-- either all digits are below the base, or not
pub cases_below : (b : ℕ) (ds : List ℕ) → AllBelowBase b ds ⊎ (AllBelowBase b ds → ⊥)
cases_below b [] = inl tt
cases_below b (d ∷ ds) =
    ⊎_elim
    (λ l. ⊎_elim (λ h. inl (l, h)) (λ wide. inr (λ h. wide h.1)) (cases_below b ds))
    (λ g. inr (λ h. omega (arith, h.0)))
    (cases_lt d b)

-- at most four octets are a number of 32 bits
pub number_small : (ds : List ℕ) → length ds ≤ 4 → AllBelowBase 256 ds → number_from_digits 256 ds < 2 ^ 32
number_small ds l h = let p : 256 ^ length ds ≤ 256 ^ 4 = pow-le-pow_right (omega arith) l in omega (arith, number_lt 256 ds h, p)

-- a number with more digits appended is at least the number shifted by that many places
number_after_at_least : (n : ℕ) (ds : List ℕ) → n * 256 ^ length ds ≤ number_from_digits_after 256 n ds
number_after_at_least n [] = omega arith
number_after_at_least n (d ∷ ds) =
    let step : n * 256 * 256 ^ length ds ≤ (n * 256 + d) * 256 ^ length ds = mul-le-mul_right (256 ^ length ds) (let q : n * 256 ≤ n * 256 + d = omega arith in q) in
    let all = number_after_at_least (n * 256 + d) ds in
    let whole : n * 256 ^ suc (length ds) ≡ n * 256 * 256 ^ length ds = omega (arith, ap (λ x. n * x) (pow-suc 256 (length ds))) in
    omega (arith, step, all, whole)

-- a first digit that is not 0 contributes at least the power of its place
pub number_at_least : (d : ℕ) (ds : List ℕ) → d ≢ 0 → 256 ^ length ds ≤ number_from_digits 256 (d ∷ ds)
number_at_least d ds h =
    let one : 1 * 256 ^ length ds ≤ d * 256 ^ length ds = mul-le-mul_right (256 ^ length ds) (let q : 1 ≤ d = omega arith in q) in
    let all : (0 * 256 + d) * 256 ^ length ds ≤ number_from_digits 256 (d ∷ ds) = number_after_at_least (0 * 256 + d) ds in
    omega (arith, one, all)

-- no continuation octets are a proper prefix of others
pub continued_front : (ds es x y : List ℕ) → 0 < length ds → 0 < length es → AllBelowBase 128 ds → AllBelowBase 128 es → continuation_octets ds ++ x ≡ continuation_octets es ++ y → (ds ≡ es) × (x ≡ y)
continued_front [] es x y p q a b e = absurd (omega arith)
continued_front (d ∷ ds) [] x y p q a b e = absurd (omega arith)
continued_front (d ∷ []) (e ∷ []) x y p q a b h = (cc, cc)
continued_front (d ∷ []) (e ∷ f ∷ fs) x y p q a b h = let g : d ≡ 128 + e = cc in absurd (omega (arith, a.0))
continued_front (d ∷ c ∷ ds) (e ∷ []) x y p q a b h = let g : 128 + d ≡ e = cc in absurd (omega (arith, b.0))
continued_front (d ∷ c ∷ ds) (e ∷ f ∷ fs) x y p q a b h =
    let g : 128 + d ≡ 128 + e = cc in
    let k : d ≡ e = omega arith in
    let t : continuation_octets (c ∷ ds) ++ x ≡ continuation_octets (f ∷ fs) ++ y = cc in
    let r = continued_front (c ∷ ds) (f ∷ fs) x y (omega arith) (omega arith) a.1 b.1 t in
    let s : c ∷ ds ≡ f ∷ fs = r.0 in
    (cc, r.1)

-- continuation octets are below 256
pub continued_octets : (ds : List ℕ) → AllBelowBase 128 ds → AllBelowBase 256 (continuation_octets ds)
continued_octets [] h = tt
continued_octets (d ∷ []) h = (omega (arith, h.0), tt)
continued_octets (d ∷ e ∷ ds) h = (omega (arith, h.0), continued_octets (e ∷ ds) h.1)

-- no number in base 128 is a proper prefix of another
pub number_front : (m n : ℕ) (x y : List ℕ) → 0 < m → 0 < n → continuation_octets (digits 128 m) ++ x ≡ continuation_octets (digits 128 n) ++ y → (m ≡ n) × (x ≡ y)
number_front m n x y p q e =
    let f : continuation_octets (digits_of 128 m) ++ x ≡ continuation_octets (digits_of 128 n) ++ y = ap (λ l. continuation_octets l ++ x) (sym (digits_positive 128 m p)) ∙ e ∙ ap (λ l. continuation_octets l ++ y) (digits_positive 128 n q) in
    let s = continued_front (digits_of 128 m) (digits_of 128 n) x y (length_digits_positive 128 m (omega arith) p) (length_digits_positive 128 n (omega arith) q) (all_below_base_digits_of 128 m (omega arith)) (all_below_base_digits_of 128 n (omega arith)) f in
    (same_from_digits_of 128 m n (omega arith) s.0, s.1)

-- there is one continuation octet for each digit
pub length_continued : (ds : List ℕ) → length (continuation_octets ds) ≡ length ds
length_continued [] = refl
length_continued (d ∷ []) = refl
length_continued (d ∷ e ∷ ds) = ap suc (length_continued (e ∷ ds))
