-- Identifier octets (X.690 8.1.2) of any class and number: `identifier_octets` are those of a label,
-- which is a class, a form and a number. `IsTagNumber` is a number after the first octet.
use Rattle.std.specs.Prelude.{◌≡◌, ℕ, ◌+◌, ◌/◌, ◌^◌, ◌<◌, ◌≤◌, nat_lt, List, [], ◌∷◌, ◌++◌, map, length, if◌then◌else◌}
use Rattle.der_base.specs.FixedOctets.{high_number}
use Rattle.der_base.specs.Length.{digits}
use Rattle.der_base.specs.Tag.{Label, label_of, leading_octet, is_constructed, continuation_octets}

-- one octet for a number up to 30 (8.1.2.2); otherwise a first octet and the digits of the number in
-- base 128, as few as possible (8.1.2.4)
abbrev pub identifier_octets : Label → List ℕ
identifier_octets l =
    if nat_lt l.number high_number then leading_octet l l.number ∷ []
    else leading_octet l high_number ∷ continuation_octets (digits 128 l.number)

-- the label with the class and the form of this first octet, and this number
abbrev pub label_at : ℕ → ℕ → Label
label_at o n = label_of (o / 64) (is_constructed o) n

-- digits that are followed by more digits: bit 8 is set (8.1.2.4.2 a)
abbrev pub continued_digits : List ℕ → List ℕ
continued_digits = map (λ d. 128 + d)

-- the first m octets of a list are a number from 31 on, as it follows a first octet
pub record IsTagNumber (n m : ℕ) (octets : List ℕ) : Type 0 where
  pub large : 31 ≤ n
  pub small : n < 2 ^ 32
  pub rest : List ℕ
  pub split : octets ≡ continuation_octets (digits 128 n) ++ rest
  pub count : m ≡ length (continuation_octets (digits 128 n))
