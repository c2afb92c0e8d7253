-- SETs OF OCTET STRINGs.
use native.Mathlib.Numerals.{unary_clauses}
use Rattle.std.proofs.Common.{◌≡◌, ℕ, ◌+◌, ◌^◌, ◌<◌, ◌≤◌, Bool, false, Err, List, take, [], ◌∷◌, ◌++◌, length, is_lt, IsPermutation, IsSortedBy, get_or, refl, sym, ap, subst, ◌∙◌, append-nil, length-append, arith}
use Rattle.std.proofs.lemmas.Bool.{le-ltb}
use Rattle.std.proofs.lemmas.List.{take_more, map_push}
use Rattle.std.proofs.lemmas.List.Concat.{flat_map-append, length-flat_map}
use Rattle.std.proofs.lemmas.List.Sorted.{sum_by-IsPermutation}
use Rattle.std.proofs.lemmas.List.Folds.{flat_map-map, length-flat_map-take}
use Rattle.der.specs.Prelude.{checked_length, error_of_kind, header_octets, length_octets, byte_order, tag_octets, OctetString}
use Rattle.der.specs.Arithmetic.{element_count}
use Rattle.der.specs.ErrorKinds.{Overflow}
use Rattle.der.proofs.OrderLemmas.{less_from_before}
use Rattle.der.specs.BorrowedOctets.{borrowed_octets}
use Rattle.der.specs.declared.example.borrowed_octets.BorrowedOctets.{BorrowedOctets}
use Rattle.example_calls.specs.AscendingStrings.{string_octets, octets_of, joined_strings, StringsAscend}

-- the encoding of an OCTET STRING has a header and its octets
pub string_count : (octets : List ℕ) → element_count OctetString (length octets) ≡ length (string_octets octets)
string_count octets = let n = length octets in omega (arith, length-append (header_octets OctetString n) octets, length-append (tag_octets OctetString) (length_octets n))

-- more octets than a length can hold
pub uncounted : (n : ℕ) → 2 ^ 32 ≤ n → checked_length n ≡ Err (error_of_kind Overflow)
uncounted n far = rw (le-ltb n (2 ^ 32) far) refl

-- an element and those before it have no more octets than all together
pub within_all : (xs : List BorrowedOctets) (i : ℕ) (x : BorrowedOctets) → i < length xs → x ≡ get_or xs i x
    → length (joined_strings (octets_of (take i xs))) + length (string_octets (borrowed_octets x)) ≤ length (joined_strings (octets_of xs))
within_all xs i x inside is =
    let most = length-flat_map-take (λ b. string_octets (borrowed_octets b)) xs i x inside in
    omega (arith, most, ap length (flat_map-map string_octets borrowed_octets (take i xs)), ap length (flat_map-map string_octets borrowed_octets xs), ap (λ b. length (string_octets (borrowed_octets b))) is)

-- one more element
pub one_more : (xs : List BorrowedOctets) (i : ℕ) (x : BorrowedOctets) → i < length xs → x ≡ get_or xs i x
    → joined_strings (octets_of (take (i + 1) xs)) ≡ joined_strings (octets_of (take i xs)) ++ string_octets (borrowed_octets x)
one_more xs i x inside is =
    ap (λ l. joined_strings (octets_of l)) (take_more xs i x inside ∙ ap (λ b. take i xs ++ b ∷ []) (sym is))
    ∙ ap joined_strings (map_push borrowed_octets (take i xs) x)
    ∙ flat_map-append string_octets (octets_of (take i xs)) (borrowed_octets x ∷ [])
    ∙ ap (λ l. joined_strings (octets_of (take i xs)) ++ l) (append-nil (string_octets (borrowed_octets x)))

-- a sorted list without its first element is sorted
rest_sorted : {X : Type 0} (lt : X → X → Bool) (x : X) (xs : List X) → IsSortedBy lt (x ∷ xs) → IsSortedBy lt xs
rest_sorted lt x xs up k d low inside =
    let at = λ (i : ℕ). get_or-cons x xs i d in
    subst (λ v. lt v (get_or xs k d) ≡ false) (at (k + 1)) (subst (λ v. lt (get_or (x ∷ xs) (k + 1 + 1) d) v ≡ false) (at k) (up (k + 1) d (omega arith) (omega arith)))
  where
    get_or-cons : {X : Type 0} (x : X) (xs : List X) (i : ℕ) (d : X) → get_or (x ∷ xs) (i + 1) d ≡ get_or xs i d
    get_or-cons x xs i d = simp unary_clauses refl

-- whether the encoding of one element comes before that of another
abbrev pub is_before : BorrowedOctets → BorrowedOctets → Bool
is_before a b = is_lt (byte_order (string_octets (borrowed_octets a)) (string_octets (borrowed_octets b)))

-- sorted elements ascend
pub ascends : (xs : List BorrowedOctets) → IsSortedBy is_before xs → StringsAscend (octets_of xs)
ascends [] up = tt
ascends (x ∷ []) up = tt
ascends (x ∷ y ∷ more) up = (
  λ before. let not_less = up 0 x (omega arith) (omega arith) in let less = ap is_lt (less_from_before _ _ before) in cc,
  ascends (y ∷ more) (rest_sorted is_before x (y ∷ more) up),
)

-- a permutation of elements has the same number of octets
pub same_count : (xs ys : List BorrowedOctets) → IsPermutation xs ys → length (joined_strings (octets_of ys)) ≡ length (joined_strings (octets_of xs))
same_count xs ys same =
    let one = λ (b : BorrowedOctets). string_octets (borrowed_octets b) in
    ap length (flat_map-map string_octets borrowed_octets ys) ∙ length-flat_map one ys
    ∙ sum_by-IsPermutation (λ b. length (one b)) xs ys same
    ∙ sym (ap length (flat_map-map string_octets borrowed_octets xs) ∙ length-flat_map one xs)
