-- Byte order of concatenated lists, and of the octets of tags, lengths and headers.
use Rattle.std.proofs.Common.{◌≡◌, ◌≢◌, ℕ, ◌+◌, ◌*◌, ◌^◌, ◌<◌, ◌≤◌, List, [], ◌∷◌, ◌++◌, length, refl, sym, ap, ◌∙◌, subst, ⊎_elim, append-nil, arith}
use Rattle.std.proofs.lemmas.Bool.{cases_lt}
use Rattle.std.proofs.lemmas.Bool.Decides.{nat_tests}
use Rattle.std.proofs.lemmas.Cmp.{nat_list_cmp_total, tied_itself}
use Rattle.std.proofs.lemmas.Map.Lookups.{exact_bytes, exact_unsigned}
use Rattle.std.proofs.lemmas.Int.Digits.{number_digits_of, number_lt, all_below_base_digits_of, length-digits_of-le}
use Rattle.std.proofs.Math.Nat.{mul-le-mul_right}
use Rattle.std.specs.Int.Digits.{digits_of, number_from_digits, number_from_digits_after, AllBelowBase}
use Rattle.std.specs.Ordering.{nat_cmp, ordering_then}
use Rattle.std.specs.declared.cmp.Ordering.{Ordering}
use Rattle.std.specs.declared.cmp.Ordering.TheVariants.{Less, Equal, Greater}
use Rattle.der_base.specs.Length.{length_octets}
use Rattle.der_base.specs.Tag.{tag_octets}
use Rattle.der_base.specs.Order.{IsBefore, begins, differs, byte_order, AreApart}
use Rattle.der_base.specs.HeaderGrammar.{header_octets}
use Rattle.der_base.specs.declared.tag.Tag.{Tag}
use Rattle.der_base.proofs.DigitLemmas.{digits_positive}
use Rattle.der_base.proofs.LengthLemmas.{length_small, length_large}
use Rattle.der_base.proofs.TagLemmas.{tag_front}

-- lists that compare equal in byte order are equal
pub same_octets : (a b : List ℕ) → byte_order a b ≡ Equal → a ≡ b
same_octets = exact_bytes

-- equal lists compare equal in byte order
pub equal_octets : (a b : List ℕ) → a ≡ b → byte_order a b ≡ Equal
equal_octets a b e = ap (byte_order a) (sym e) ∙ tied_itself nat_list_cmp_total a

less : (m n : ℕ) → m < n → nat_cmp m n ≡ Less
less m n h = grind (arith, nat_tests)

greater : (m n : ℕ) → n < m → nat_cmp m n ≡ Greater
greater m n h = grind (arith, nat_tests)

level : (m n : ℕ) → m ≡ n → nat_cmp m n ≡ Equal
level m n h = grind (arith, nat_tests)

first_less : (o p : ℕ) (a b : List ℕ) → o < p → byte_order (o ∷ a) (p ∷ b) ≡ Less
first_less o p a b h = ap (λ x. ordering_then x (byte_order a b)) (less o p h)

-- after a common prefix the rest decides
pub order_after_prefix : (front a b : List ℕ) → byte_order (front ++ a) (front ++ b) ≡ byte_order a b
order_after_prefix [] a b = refl
order_after_prefix (o ∷ front) a b = ap (λ x. ordering_then x (byte_order (front ++ a) (front ++ b))) (level o o refl) ∙ order_after_prefix front a b

-- a list that compares less is a proper prefix of the other, or has the smaller octet at the first
-- difference
pub before_from_less : (a b : List ℕ) → byte_order a b ≡ Less → IsBefore a b
before_from_less [] [] h = cc
before_from_less [] (q ∷ b) h = begins q b refl
before_from_less (p ∷ a) [] h = cc
before_from_less (p ∷ a) (q ∷ b) h =
    ⊎_elim
    (λ l. differs [] a b p q l refl refl)
    (λ l. ⊎_elim
    (λ g. let wrong : Greater ≡ Less = ap (λ x. ordering_then x (byte_order a b)) (sym (greater p q g)) ∙ h in cc)
    (λ g. let same : p ≡ q = omega arith in
    following p a b q same (before_from_less a b (ap (λ x. ordering_then x (byte_order a b)) (sym (level p q same)) ∙ h)))
    (cases_lt q p))
    (cases_lt p q)
  where
    following : (p : ℕ) (a b : List ℕ) (q : ℕ) → p ≡ q → IsBefore a b → IsBefore (p ∷ a) (q ∷ b)
    following p a b q e (begins o more f) = begins o more (ap (λ x. x ∷ b) (sym e) ∙ ap (λ l. p ∷ l) f)
    following p a b q e (differs same x y m n l f g) = differs (p ∷ same) x y m n l (ap (λ k. p ∷ k) f) (ap (λ x. x ∷ b) (sym e) ∙ ap (λ k. p ∷ k) g)

pub less_from_before : (a b : List ℕ) → IsBefore a b → byte_order a b ≡ Less
less_from_before a b (begins o more e) =
    ap (byte_order a) e ∙ ap (λ l. byte_order l (a ++ o ∷ more)) (sym (append-nil a)) ∙ order_after_prefix a [] (o ∷ more)
less_from_before a b (differs same x y m n l e f) =
    ap (byte_order a) f ∙ ap (λ k. byte_order k (same ++ n ∷ y)) e ∙ order_after_prefix same (m ∷ x) (n ∷ y) ∙ first_less m n x y l

parts_step : (o s t r : Ordering) → (o ≡ Equal → s ≡ ordering_then t r) → ordering_then o s ≡ ordering_then (ordering_then o t) r
parts_step Less s t r h = refl
parts_step Equal s t r h = h refl
parts_step Greater s t r h = refl

-- for concatenated lists the first parts decide, if neither is a prefix of the other, then the rest
pub order_parts : (a b x y : List ℕ) → AreApart a b → byte_order (a ++ x) (b ++ y) ≡ ordering_then (byte_order a b) (byte_order x y)
order_parts [] [] x y h = refl
order_parts [] (q ∷ b) x y h = let e : [] ≡ q ∷ b = h (q ∷ b) [] (sym (append-nil (q ∷ b))) in cc
order_parts (p ∷ a) [] x y h = let e : p ∷ a ≡ [] = h [] (p ∷ a) (append-nil (p ∷ a)) in cc
order_parts (p ∷ a) (q ∷ b) x y h =
    parts_step (nat_cmp p q) (byte_order (a ++ x) (b ++ y)) (byte_order a b) (byte_order x y)
    (λ (e : nat_cmp p q ≡ Equal). order_parts a b x y (λ u v k. let f : p ∷ a ≡ q ∷ b = h u v (let g : p ≡ q = exact_unsigned p q e in cc) in cc))

pub then_equal : (o : Ordering) → ordering_then o Equal ≡ o
then_equal Less = refl
then_equal Equal = refl
then_equal Greater = refl

shifted : (k d e : ℕ) → nat_cmp (k + d) (k + e) ≡ nat_cmp d e
shifted k d e = grind (arith, nat_tests)

-- one more digit after two numbers
digit_step : (b m n d e : ℕ) (o : Ordering) → d < b → e < b → ordering_then (nat_cmp m n) (ordering_then (nat_cmp d e) o) ≡ ordering_then (nat_cmp (m * b + d) (n * b + e)) o
digit_step b m n d e o p q =
    ⊎_elim
    (λ h. ap (λ x. ordering_then x (ordering_then (nat_cmp d e) o)) (less m n h)
    ∙ sym (ap (λ x. ordering_then x o) (less (m * b + d) (n * b + e) (let k : (m + 1) * b ≤ n * b = mul-le-mul_right b (let l : m + 1 ≤ n = omega arith in l) in omega arith))))
    (λ h. ⊎_elim
    (λ g. ap (λ x. ordering_then x (ordering_then (nat_cmp d e) o)) (greater m n g)
    ∙ sym (ap (λ x. ordering_then x o) (greater (m * b + d) (n * b + e) (let k : (n + 1) * b ≤ m * b = mul-le-mul_right b (let l : n + 1 ≤ m = omega arith in l) in omega arith))))
    (λ g. let same : m ≡ n = omega arith in
    ap (λ x. ordering_then x (ordering_then (nat_cmp d e) o)) (level m n same)
    ∙ ap (λ x. ordering_then x o) (sym (shifted (m * b) d e) ∙ ap (λ x. nat_cmp (m * b + d) (x * b + e)) same))
    (cases_lt n m))
    (cases_lt m n)

-- equally many digits after two numbers
digits_after : (b m n : ℕ) (ds es : List ℕ) → length ds ≡ length es → AllBelowBase b ds → AllBelowBase b es
    → ordering_then (nat_cmp m n) (byte_order ds es) ≡ nat_cmp (number_from_digits_after b m ds) (number_from_digits_after b n es)
digits_after b m n [] [] l p q = then_equal (nat_cmp m n)
digits_after b m n [] (e ∷ es) l p q = absurd (omega arith)
digits_after b m n (d ∷ ds) [] l p q = absurd (omega arith)
digits_after b m n (d ∷ ds) (e ∷ es) l p q =
    digit_step b m n d e (byte_order ds es) p.0 q.0 ∙ digits_after b (m * b + d) (n * b + e) ds es (omega arith) p.1 q.1

-- equally many digits compare as their numbers do
pub digits_order : (b : ℕ) (ds es : List ℕ) → length ds ≡ length es → AllBelowBase b ds → AllBelowBase b es
    → byte_order ds es ≡ nat_cmp (number_from_digits b ds) (number_from_digits b es)
digits_order b ds es l p q = digits_after b 0 0 ds es l p q

first_greater : (o p : ℕ) (a b : List ℕ) → p < o → byte_order (o ∷ a) (p ∷ b) ≡ Greater
first_greater o p a b h = ap (λ x. ordering_then x (byte_order a b)) (greater o p h)

large_of : (n : ℕ) → 128 ≤ n → length_octets n ≡ (128 + length (digits_of 256 n)) ∷ digits_of 256 n
large_of n h = length_large n h ∙ ap (λ l. (128 + length l) ∷ l) (digits_positive 256 n (omega arith))

-- a number with fewer digits is smaller
fewer_digits : (m n : ℕ) → length (digits_of 256 m) < length (digits_of 256 n) → m < n
fewer_digits m n h =
    ⊎_elim
    (λ a. a)
    (λ a. let most : m < 256 ^ length (digits_of 256 m) = subst (λ (k : ℕ). k < 256 ^ length (digits_of 256 m)) (number_digits_of 256 m (omega arith)) (number_lt 256 (digits_of 256 m) (all_below_base_digits_of 256 m (omega arith))) in
    absurd (omega (arith, length-digits_of-le 256 (length (digits_of 256 m)) n (omega arith) (omega arith))))
    (cases_lt m n)

both_large : (m n : ℕ)
    → byte_order ((128 + length (digits_of 256 m)) ∷ digits_of 256 m) ((128 + length (digits_of 256 n)) ∷ digits_of 256 n) ≡ nat_cmp m n
both_large m n =
    ⊎_elim
    (λ a. first_less (128 + length (digits_of 256 m)) (128 + length (digits_of 256 n)) (digits_of 256 m) (digits_of 256 n) (omega arith) ∙ sym (less m n (fewer_digits m n a)))
    (λ a. ⊎_elim
    (λ b. first_greater (128 + length (digits_of 256 m)) (128 + length (digits_of 256 n)) (digits_of 256 m) (digits_of 256 n) (omega arith) ∙ sym (greater m n (fewer_digits n m b)))
    (λ b. let same : length (digits_of 256 m) ≡ length (digits_of 256 n) = omega arith in
    ap (λ o. ordering_then o (byte_order (digits_of 256 m) (digits_of 256 n))) (level (128 + length (digits_of 256 m)) (128 + length (digits_of 256 n)) (omega arith))
    ∙ digits_order 256 (digits_of 256 m) (digits_of 256 n) same (all_below_base_digits_of 256 m (omega arith)) (all_below_base_digits_of 256 n (omega arith))
    ∙ ap (λ i. nat_cmp i (number_from_digits 256 (digits_of 256 n))) (number_digits_of 256 m (omega arith))
    ∙ ap (nat_cmp m) (number_digits_of 256 n (omega arith)))
    (cases_lt (length (digits_of 256 n)) (length (digits_of 256 m))))
    (cases_lt (length (digits_of 256 m)) (length (digits_of 256 n)))

-- encoded lengths compare as their numbers do
pub length_order : (m n : ℕ) → byte_order (length_octets m) (length_octets n) ≡ nat_cmp m n
length_order m n =
    ⊎_elim
    (λ a. ⊎_elim
    (λ b. ap (λ l. byte_order l (length_octets n)) (length_small m a) ∙ ap (byte_order (m ∷ [])) (length_small n b) ∙ then_equal (nat_cmp m n))
    (λ b. ap (λ l. byte_order l (length_octets n)) (length_small m a) ∙ ap (byte_order (m ∷ [])) (large_of n b) ∙ first_less m (128 + length (digits_of 256 n)) [] (digits_of 256 n) (omega arith) ∙ sym (less m n (omega arith)))
    (cases_lt n 128))
    (λ a. ⊎_elim
    (λ b. ap (λ l. byte_order l (length_octets n)) (large_of m a) ∙ ap (byte_order ((128 + length (digits_of 256 m)) ∷ digits_of 256 m)) (length_small n b) ∙ first_greater (128 + length (digits_of 256 m)) n (digits_of 256 m) [] (omega arith) ∙ sym (greater m n (omega arith)))
    (λ b. ap (λ l. byte_order l (length_octets n)) (large_of m a) ∙ ap (byte_order ((128 + length (digits_of 256 m)) ∷ digits_of 256 m)) (large_of n b) ∙ both_large m n)
    (cases_lt n 128))
    (cases_lt m 128)

-- headers compare by their tags, then by their encoded lengths
pub header_parts : (t u : Tag) (m n : ℕ) → byte_order (header_octets t m) (header_octets u n) ≡ ordering_then (byte_order (tag_octets t) (tag_octets u)) (byte_order (length_octets m) (length_octets n))
header_parts t u m n = order_parts (tag_octets t) (tag_octets u) (length_octets m) (length_octets n) (λ x y e. ap tag_octets (tag_front t u x y e).0)

-- headers compare by their tags, then by their numbers
pub header_order : (t u : Tag) (m n : ℕ) → byte_order (header_octets t m) (header_octets u n) ≡ ordering_then (byte_order (tag_octets t) (tag_octets u)) (nat_cmp m n)
header_order t u m n = header_parts t u m n ∙ ap (ordering_then (byte_order (tag_octets t) (tag_octets u))) (length_order m n)

-- unequal lists compare the same whatever follows them
pub then_unequal : (o p : Ordering) → o ≢ Equal → ordering_then o p ≡ o
then_unequal Less p h = refl
then_unequal Equal p h = absurd (h refl)
then_unequal Greater p h = refl
