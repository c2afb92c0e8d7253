-- Contents octets of the small types, as far as `der_asn1` has no word for a rule.
use Rattle.std.specs.Prelude.{ℕ, ◌==◌, ◌&&◌, not, Bool, true, false, nat_lt, List, [], ◌∷◌}
use Rattle.std.specs.Prelude.{if◌then◌else◌}

abbrev pub has_octets : List ℕ → Bool
has_octets [] = false
has_octets (o ∷ os) = true

abbrev pub has_one_octet : List ℕ → Bool
has_one_octet [] = false
has_one_octet (o ∷ []) = true
has_one_octet (o ∷ p ∷ os) = false

-- the initial octet of a BIT STRING is a number from zero to seven (8.6.2.2)
abbrev pub has_unused_bits : List ℕ → Bool
has_unused_bits [] = true
has_unused_bits (unused ∷ octets) = nat_lt unused 8

-- an initial octet without subsequent octets is zero (8.6.2.3)
abbrev pub has_none_unused : List ℕ → Bool
has_none_unused [] = true
has_none_unused (unused ∷ []) = unused == 0
has_none_unused (unused ∷ o ∷ octets) = true

-- bit 8 of the last octet is zero: it is the last one of its subidentifier (8.19.2)
abbrev pub ends_whole : List ℕ → Bool
ends_whole [] = true
ends_whole (o ∷ []) = nat_lt o 128
ends_whole (o ∷ p ∷ os) = ends_whole (p ∷ os)

-- the first octet is a solidus
abbrev pub begins_with_solidus : List ℕ → Bool
begins_with_solidus [] = false
begins_with_solidus (o ∷ os) = o == 47

abbrev pub begins_without_solidus : List ℕ → Bool
begins_without_solidus [] = false
begins_without_solidus (o ∷ os) = not (o == 47)

-- printing characters of ISO/IEC 646 without space, one at least
abbrev pub are_printing : List ℕ → Bool
are_printing [] = true
are_printing (o ∷ os) = if nat_lt 32 o && nat_lt o 127 then are_printing os else false

abbrev pub is_printing : List ℕ → Bool
is_printing octets = has_octets octets && are_printing octets
