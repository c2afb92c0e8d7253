-- Lemmas on texts and the order of octets.
use Rattle.std.proofs.Common.{◌≡◌, ℕ, Bool, true, false, Option, Some, List, length, drop, refl, ap, ◌∙◌}
use Rattle.std.specs.Cmp.Lexicographic.{slice_partial_cmp, lists_agrees}
use Rattle.std.specs.Ordering.{ordering_then, partial_ordering_then, nat_cmp, bool_cmp}
use Rattle.std.specs.Str.{IsUtf8, is_utf8, valid_up_to, error_len}
use Rattle.std.specs.Str.Lossy.{utf8_valid_len, utf8_error_len}
use Rattle.std.specs.declared.str.Utf8Error.{Utf8Error}
use Rattle.std.specs.declared.cmp.Ordering.{Ordering}
use Rattle.std.specs.declared.cmp.Ordering.TheVariants.{Less, Equal, Greater}
use Rattle.std.proofs.lemmas.Str.{IsUtf8-from_is_utf8}
use Rattle.der.specs.Octets.{utf8_fault}
use Rattle.der_base.specs.Order.{byte_order}
use Rattle.der.specs.OctetsOrder.{counted_order}

-- the UTF-8 check fails on octets that are not UTF-8
pub is_utf8_false : (octets : List ℕ) → (IsUtf8 octets → ⊥) → is_utf8 octets ≡ false
is_utf8_false octets isnt = go (is_utf8 octets) refl
  where
    go : (b : Bool) → is_utf8 octets ≡ b → b ≡ false
    go true is = absurd (isnt (IsUtf8-from_is_utf8 octets is))
    go false is = refl

-- the partial order of octets is their order
pub slice_partial_cmp_octets : (a b : List ℕ)
    → slice_partial_cmp (λ x y. Some (nat_cmp x y)) a b ≡ Some (byte_order a b)
slice_partial_cmp_octets a b = lists_agrees (λ x y. refl) a b

partial_ordering_then_equal : (r s : Ordering)
    → partial_ordering_then (partial_ordering_then (Some r) (Some Equal)) (Some s)
    ≡ Some (ordering_then r s)
partial_ordering_then_equal Less s = refl
partial_ordering_then_equal Equal s = refl
partial_ordering_then_equal Greater s = refl

-- the derived partial order of a length followed by octets is `counted_order`
pub partial_ordering_then_counted : (a b : List ℕ)
    → partial_ordering_then (partial_ordering_then (Some (nat_cmp (length a) (length b)))
    (Some (bool_cmp false false))) (slice_partial_cmp (λ x y. Some (nat_cmp x y)) a b)
    ≡ Some (counted_order a b)
partial_ordering_then_counted a b =
    ap (partial_ordering_then (partial_ordering_then (Some (nat_cmp (length a) (length b)))
    (Some Equal))) (slice_partial_cmp_octets a b)
    ∙ partial_ordering_then_equal (nat_cmp (length a) (length b)) (byte_order a b)

abbrev utf8_error : ℕ → Option ℕ → Utf8Error
utf8_error n l = record { valid_up_to = n; error_len = l }

-- an error with the position and the length of the first invalid UTF-8 octets is `utf8_fault`
pub utf8_fault_is : (octets : List ℕ) (e : Utf8Error) → valid_up_to e ≡ utf8_valid_len octets
    → error_len e ≡ utf8_error_len (drop (valid_up_to e) octets) → e ≡ utf8_fault octets
utf8_fault_is octets e up len =
    ap (λ n. utf8_error n (error_len e)) up
    ∙ ap (λ l. utf8_error (utf8_valid_len octets) l)
    (len ∙ ap (λ n. utf8_error_len (drop n octets)) up)
