-- Lemmas on the contents of integers as numbers.
use Rattle.std.proofs.Common.{◌≡◌, ◌≢◌, ℕ, zero, suc, ◌+◌, ◌-◌, ◌*◌, ◌^◌, ◌<◌, ◌≤◌, ⊎_elim, Bool, true, false, not, ◌&&◌, ◌||◌, List, [], ◌∷◌, ◌++◌, length, take, drop, map, refl, sym, ap, subst, ◌∙◌, nat_lt, nat_eq, if◌then◌else◌, slice_index_or, arith, ℤ, pos, negsuc}
use Rattle.std.proofs.Math.Seq.{drop-cons}
use Rattle.std.proofs.lemmas.Bool.{cases_lt, lt-ltb, le-ltb, ne_eqb, eq-eqb}
use Rattle.std.proofs.lemmas.List.{take-append-drop, take_more, map-append}
use Rattle.std.proofs.lemmas.Int.Digits.{number_after_append, number_after_ge, number_push, number_digits_of, first_digits_of, all_below_base_digits_of}
use Rattle.std.specs.Int.Digits.{digits_of, number_from_digits, number_from_digits_after, AllBelowBase}
use Rattle.der_base.proofs.DigitLemmas.{digits_of_number, all_below_push}
use Rattle.der_asn1.specs.Forms.{integer_form}
use Rattle.std.proofs.Common.{FitsSigned, w64}
use Rattle.std.proofs.lemmas.Int.{ints}
use Rattle.der_asn1.specs.Integer.{signed_form, unsigned_form, signed_octets, turned, with_first_bit, integer_octets, is_negative, magnitude}

-- a number that is already too large for another digit exceeds the limit
pub no_space : (f : ℕ → ℕ) (xs : List ℕ) (i : ℕ) → i < length xs → 2 ^ 56 ≤ number_from_digits 256 (map f (take i xs)) → number_from_digits 256 (map f xs) < 2 ^ 64 → ⊥
no_space f xs i h large small =
    let split : map f xs ≡ map f (take i xs) ++ map f (drop i xs) = ap (map f) (sym (take-append-drop i xs)) ∙ map-append f (take i xs) (drop i xs) in
    let next : map f (drop i xs) ≡ f (slice_index_or xs i 0) ∷ map f (drop (suc i) xs) = ap (map f) (drop-cons xs i 0 h) in
    let whole : number_from_digits 256 (map f xs) ≡ number_from_digits_after 256 (number_from_digits 256 (map f (take i xs)) * 256 + f (slice_index_or xs i 0)) (map f (drop (suc i) xs)) =
    ap (number_from_digits 256) (split ∙ ap (λ l. map f (take i xs) ++ l) next) ∙ number_after_append 256 0 (map f (take i xs)) (f (slice_index_or xs i 0) ∷ map f (drop (suc i) xs)) in
    let most = number_after_ge 256 (number_from_digits 256 (map f (take i xs)) * 256 + f (slice_index_or xs i 0)) (map f (drop (suc i) xs)) (omega arith) in
    omega (arith, whole, most)

-- appending one digit
pub next_digit : (f : ℕ → ℕ) (xs : List ℕ) (i number : ℕ) → i < length xs → number ≡ number_from_digits 256 (map f (take i xs)) → number * 256 + f (slice_index_or xs i 0) ≡ number_from_digits 256 (map f (take (i + 1) xs))
next_digit f xs i number h e =
    ap (λ n. n * 256 + f (slice_index_or xs i 0)) e ∙ sym (number_push 256 (map f (take i xs)) (f (slice_index_or xs i 0)))
    ∙ ap (number_from_digits 256) (sym (map-append f (take i xs) (slice_index_or xs i 0 ∷ [])) ∙ ap (map f) (sym (take_more xs i 0 h)))

pub next_below : (xs : List ℕ) (i : ℕ) → i < length xs → slice_index_or xs i 0 < 256 → AllBelowBase 256 (take i xs) → AllBelowBase 256 (take (i + 1) xs)
next_below xs i h o below = subst (AllBelowBase 256) (sym (take_more xs i 0 h)) (all_below_push 256 (take i xs) (slice_index_or xs i 0) below o)

-- inverting bits twice gives the same bits
pub turned_twice : (negative : Bool) (ds : List ℕ) → AllBelowBase 256 ds → map (turned negative) (map (turned negative) ds) ≡ ds
turned_twice negative [] h = refl
turned_twice false (o ∷ os) h = ap (λ l. o ∷ l) (turned_twice false os h.1)
turned_twice true (o ∷ os) h =
    let e : 255 - (255 - o) ≡ o = omega (arith, h.0) in
    ap (λ x. x ∷ map (turned true) (map (turned true) os)) e ∙ ap (λ l. o ∷ l) (turned_twice true os h.1)

pub turned_below : (negative : Bool) (ds : List ℕ) → AllBelowBase 256 ds → AllBelowBase 256 (map (turned negative) ds)
turned_below negative [] h = tt
turned_below false (o ∷ os) h = (h.0, turned_below false os h.1)
turned_below true (o ∷ os) h = (omega arith, turned_below true os h.1)

turned_small : (o : ℕ) → o < 256 → nat_lt (255 - o) 128 ≡ not (nat_lt o 128)
turned_small o h = ⊎_elim (λ l. le-ltb (255 - o) 128 (omega arith) ∙ sym (ap not (lt-ltb o 128 l))) (λ g. lt-ltb (255 - o) 128 (omega arith) ∙ sym (ap not (le-ltb o 128 g))) (cases_lt o 128)

turned_zero : (o : ℕ) → o < 256 → nat_eq (255 - o) 0 ≡ nat_eq o 255
turned_zero o h = ⊎_elim (λ l. ne_eqb (255 - o) 0 (λ e. omega arith) ∙ sym (ne_eqb o 255 (λ e. omega arith))) (λ g. eq-eqb (255 - o) 0 (omega arith) ∙ sym (eq-eqb o 255 (omega arith))) (cases_lt o 255)

turned_full : (o : ℕ) → o < 256 → nat_eq (255 - o) 255 ≡ nat_eq o 0
turned_full o h = ⊎_elim (λ l. ne_eqb (255 - o) 255 (λ e. omega arith) ∙ sym (ne_eqb o 0 (λ e. omega arith))) (λ g. eq-eqb (255 - o) 255 (omega arith) ∙ sym (eq-eqb o 0 (omega arith))) (cases_lt 0 o)

swapped : (z e l : Bool) → not (e && not l || z && not (not l)) ≡ not (z && l || e && not l)
swapped true true true = refl
swapped true true false = refl
swapped true false true = refl
swapped true false false = refl
swapped false true true = refl
swapped false true false = refl
swapped false false true = refl
swapped false false false = refl

-- inverting all bits of valid INTEGER contents gives valid contents
pub form_turned : (negative : Bool) (ds : List ℕ) → AllBelowBase 256 ds → integer_form (map (turned negative) ds) ≡ integer_form ds
form_turned negative [] h = refl
form_turned negative (o ∷ []) h = refl
form_turned false (o ∷ p ∷ os) h = refl
form_turned true (o ∷ p ∷ os) h =
    ap (λ x. not (x && nat_lt (255 - p) 128 || nat_eq (255 - o) 255 && not (nat_lt (255 - p) 128))) (turned_zero o h.0)
    ∙ ap (λ x. not (nat_eq o 255 && nat_lt (255 - p) 128 || x && not (nat_lt (255 - p) 128))) (turned_full o h.0)
    ∙ ap (λ x. not (nat_eq o 255 && x || nat_eq o 0 && not x)) (turned_small p h.1.0)
    ∙ swapped (nat_eq o 0) (nat_eq o 255) (nat_lt p 128)

negative_turned : (negative : Bool) (o : ℕ) → o < 256 → not (nat_lt (turned negative o) 128) ≡ (if negative then nat_lt o 128 else not (nat_lt o 128))
negative_turned false o h = refl
negative_turned true o h = ap not (turned_small o h) ∙ twice (nat_lt o 128)
  where
    twice : (b : Bool) → not (not b) ≡ b
    twice true = refl
    twice false = refl

-- valid contents whose first bit is zero are the contents of their number
pub digits_made : (ds : List ℕ) → AllBelowBase 256 ds → integer_form ds ≡ true → is_negative ds ≡ false → with_first_bit (digits_of 256 (number_from_digits 256 ds)) ≡ ds
digits_made [] h grammar sign = absurd (let no : false ≡ true = grammar in cc)
digits_made (zero ∷ []) h grammar sign = refl
digits_made (zero ∷ p ∷ os) h grammar sign =
    let large : nat_lt p 128 ≡ false = is_large (nat_lt p 128) grammar in
    let some : p ≢ 0 = λ e. (let yes : nat_lt p 128 ≡ true = lt-ltb p 128 (omega arith) in let no : true ≡ false = sym yes ∙ large in cc) in
    ap with_first_bit (digits_of_number 256 p os (omega arith) some h.1) ∙ ap (λ b. if b then p ∷ os else 0 ∷ p ∷ os) large
  where
    is_large : (b : Bool) → not (true && b || false && not b) ≡ true → b ≡ false
    is_large true e = absurd (let no : false ≡ true = e in cc)
    is_large false e = refl
digits_made (suc d ∷ os) h grammar sign =
    let small : nat_lt (suc d) 128 ≡ true = is_small (nat_lt (suc d) 128) sign in
    ap with_first_bit (digits_of_number 256 (suc d) os (omega arith) (λ e. omega arith) h) ∙ ap (λ b. if b then suc d ∷ os else 0 ∷ suc d ∷ os) small
  where
    is_small : (b : Bool) → not b ≡ false → b ≡ true
    is_small true e = refl
    is_small false e = absurd (let no : true ≡ false = e in cc)

turned_first : (octets : List ℕ) → AllBelowBase 256 octets → is_negative (map (turned (is_negative octets)) octets) ≡ false
turned_first [] h = refl
turned_first (o ∷ os) h = negative_turned (not (nat_lt o 128)) o h.0 ∙ never (nat_lt o 128)
  where
    never : (b : Bool) → (if not b then b else not b) ≡ false
    never true = refl
    never false = refl

-- valid contents are the contents of their number
pub contents_made : (octets : List ℕ) → AllBelowBase 256 octets → integer_form octets ≡ true → integer_octets (is_negative octets) (magnitude octets) ≡ octets
contents_made octets h grammar =
    let negative = is_negative octets in
    ap (map (turned negative)) (digits_made (map (turned negative) octets) (turned_below negative octets h) (form_turned negative octets h ∙ grammar) (turned_first octets h))
    ∙ turned_twice negative octets h

-- the contents of a number are valid, and have its sign and its digits
with_below : (ds : List ℕ) → AllBelowBase 256 ds → AllBelowBase 256 (with_first_bit ds)
with_below [] h = (omega arith, tt)
with_below (o ∷ os) h = go (nat_lt o 128)
  where
    go : (b : Bool) → AllBelowBase 256 (if b then o ∷ os else 0 ∷ o ∷ os)
    go true = h
    go false = (omega arith, h)

with_number : (ds : List ℕ) → number_from_digits 256 (with_first_bit ds) ≡ number_from_digits 256 ds
with_number [] = refl
with_number (o ∷ os) = go (nat_lt o 128)
  where
    go : (b : Bool) → number_from_digits 256 (if b then o ∷ os else 0 ∷ o ∷ os) ≡ number_from_digits 256 (o ∷ os)
    go true = refl
    go false = refl

with_form : (ds : List ℕ) → (0 < length ds → 0 < slice_index_or ds 0 0) → AllBelowBase 256 ds → integer_form (with_first_bit ds) ≡ true
with_form [] some h = refl
with_form (o ∷ os) some h = go os (nat_lt o 128) refl
  where
    first : 0 < o
    first = some (omega arith)

    go : (ps : List ℕ) (b : Bool) → nat_lt o 128 ≡ b → integer_form (if b then o ∷ ps else 0 ∷ o ∷ ps) ≡ true
    go [] true e = refl
    go (p ∷ ps) true e =
        let zero_not : nat_eq o 0 ≡ false = ne_eqb o 0 (λ z. omega arith) in
        let full_not : nat_eq o 255 ≡ false = ne_eqb o 255 (λ z. (let no : nat_lt o 128 ≡ false = le-ltb o 128 (omega arith) in let wrong : true ≡ false = sym e ∙ no in cc)) in
        ap (λ x. not (x && nat_lt p 128 || nat_eq o 255 && not (nat_lt p 128))) zero_not ∙ ap (λ x. not (false && nat_lt p 128 || x && not (nat_lt p 128))) full_not
    go ps false e = ap (λ x. not (true && x || false && not x)) e

with_sign : (ds : List ℕ) → is_negative (with_first_bit ds) ≡ false
with_sign [] = refl
with_sign (o ∷ os) = go (nat_lt o 128) refl
  where
    go : (b : Bool) → nat_lt o 128 ≡ b → is_negative (if b then o ∷ os else 0 ∷ o ∷ os) ≡ false
    go true e = ap not e
    go false e = refl

sign_turned : (negative : Bool) (ds : List ℕ) → AllBelowBase 256 ds → 0 < length ds → is_negative ds ≡ false → is_negative (map (turned negative) ds) ≡ negative
sign_turned negative [] h some e = absurd (omega arith)
sign_turned false (o ∷ os) h some e = e
sign_turned true (o ∷ os) h some e = ap not (turned_small o h.0) ∙ ap not e

with_some : (ds : List ℕ) → 0 < length (with_first_bit ds)
with_some [] = omega arith
with_some (o ∷ os) = go (nat_lt o 128)
  where
    go : (b : Bool) → 0 < length (if b then o ∷ os else 0 ∷ o ∷ os)
    go true = omega arith
    go false = omega arith

module _ (negative : Bool) (n : ℕ) where
  below : AllBelowBase 256 (with_first_bit (digits_of 256 n))
  below = with_below (digits_of 256 n) (all_below_base_digits_of 256 n (omega arith))

  digit_first : 0 < length (digits_of 256 n) → 0 < slice_index_or (digits_of 256 n) 0 0
  digit_first some = ⊎_elim (λ l. first_digits_of 256 n (omega arith) l) (λ g. absurd (let e : n ≡ 0 = omega arith in let none : length (digits_of 256 n) ≡ 0 = ap (λ k. length (digits_of 256 k)) e in omega arith)) (cases_lt 0 n)

  pub made_form : integer_form (integer_octets negative n) ≡ true
  made_form = form_turned negative (with_first_bit (digits_of 256 n)) below ∙ with_form (digits_of 256 n) digit_first (all_below_base_digits_of 256 n (omega arith))

  pub made_sign : is_negative (integer_octets negative n) ≡ negative
  made_sign = sign_turned negative (with_first_bit (digits_of 256 n)) below (with_some (digits_of 256 n)) (with_sign (digits_of 256 n))

  pub made_number : magnitude (integer_octets negative n) ≡ n
  made_number =
      ap (λ b. number_from_digits 256 (map (turned b) (integer_octets negative n))) made_sign
      ∙ ap (number_from_digits 256) (turned_twice negative (with_first_bit (digits_of 256 n)) below)
      ∙ with_number (digits_of 256 n) ∙ number_digits_of 256 n (omega arith)

both_true : (b c : Bool) → b ≡ true → c ≡ true → (b && c) ≡ true
both_true b c q r = rw (q, r)

-- the contents of numbers below a limit are valid
pub made_signed : (negative : Bool) (n limit : ℕ) → n < limit → signed_form limit (integer_octets negative n) ≡ true
made_signed negative n limit h = both_true (integer_form (integer_octets negative n)) (nat_lt (magnitude (integer_octets negative n)) limit) (made_form negative n) (ap (λ k. nat_lt k limit) (made_number negative n) ∙ lt-ltb n limit h)

pub made_unsigned : (n limit : ℕ) → n < limit → unsigned_form limit (integer_octets false n) ≡ true
made_unsigned n limit h = both_true (not (is_negative (integer_octets false n))) (signed_form limit (integer_octets false n)) (ap not (made_sign false n)) (made_signed false n limit h)

pub made_of : (z : ℤ) → FitsSigned w64 z → signed_form (2 ^ 63) (signed_octets z) ≡ true
made_of (pos n) h = made_signed false n (2 ^ 63) (omega (arith, ints, h))
made_of (negsuc n) h = made_signed true n (2 ^ 63) (omega (arith, ints, h))
