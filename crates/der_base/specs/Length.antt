-- Lengths (X.690 8.1.3): `number` and `is_indefinite` are the fields of one, `definite_length` and
-- `indefinite_length` construct one, and `length_octets` are its encoding, in base-256 `digits`.
use Rattle.std.specs.Prelude.{ℕ, ◌==◌, Bool, true, false, List, [], ◌∷◌, length, nat_lt, if◌then◌else◌}
use Rattle.std.specs.Int.Digits.{digits_of}
use Rattle.der_base.specs.FixedOctets.{long_form}
use Rattle.der_base.specs.declared.length.Length.{Length}

-- the number of octets, and whether it was read in the indefinite form
abbrev pub number : Length → ℕ
number l = l.inner

abbrev pub is_indefinite : Length → Bool
is_indefinite l = l.indefinite

-- a length of n octets, in the definite and in the indefinite form
abbrev pub definite_length : ℕ → Length
definite_length n = record { inner = n; indefinite = false }

abbrev pub indefinite_length : ℕ → Length
indefinite_length n = record { inner = n; indefinite = true }

-- the shortest list of digits of a number in a base, the most significant first; a single zero for
-- 0
abbrev pub digits : ℕ → ℕ → List ℕ
digits base n = if n == 0 then 0 ∷ [] else digits_of base n

-- the length octets of a number: the fewest possible (8.1.3.4, 8.1.3.5, 10.1)
abbrev pub length_octets : ℕ → List ℕ
length_octets n = if nat_lt n 128 then n ∷ [] else long_form (length (digits 256 n)) ∷ digits 256 n
