-- Sums and differences of lengths: `checked_length` and `checked_difference` are results of calls,
-- `element_count` is the size of an element, and `sans_eoc` subtracts the end-of-contents octets.
use Rattle.std.specs.Prelude.{ℕ, ◌+◌, ◌-◌, ◌^◌, length, min, nat_lt, Result, Ok, Err, if◌then◌else◌}
use Rattle.der_base.specs.Length.{number, is_indefinite, definite_length, indefinite_length, length_octets}
use Rattle.der_base.specs.Tag.{tag_octets}
use Rattle.der_base.specs.Error.{error_of_kind}
use Rattle.der_base.specs.declared.length.Length.{Length}
use Rattle.der_base.specs.declared.tag.Tag.{Tag}
use Rattle.der_base.specs.declared.error.Error.{Error}
use Rattle.der_base.specs.declared.error.ErrorKind.TheVariants.{Overflow}

-- the definite length n, if it fits into 32 bits
abbrev pub checked_length : ℕ → Result Length Error
checked_length n = if nat_lt n (2 ^ 32) then Ok (definite_length n)
    else Err (error_of_kind Overflow)

-- the difference m - n as a definite length, if it is not negative
abbrev pub checked_difference : ℕ → ℕ → Result Length Error
checked_difference m n = if nat_lt m n then Err (error_of_kind Overflow)
    else Ok (definite_length (m - n))

-- a sum or a difference whose left operand may be an error, which is then the result
abbrev pub result_sum : Result Length Error → Length → Result Length Error
result_sum (Ok a) b = checked_length (number a + number b)
result_sum (Err e) b = Err e

abbrev pub result_difference : Result Length Error → Length → Result Length Error
result_difference (Ok a) b = checked_difference (number a) (number b)
result_difference (Err e) b = Err e

-- the number, or the greatest number of 32 bits if it is larger
abbrev pub saturated_number : ℕ → ℕ
saturated_number n = min n (2 ^ 32 - 1)

-- the size of an element with n contents octets: its identifier octets, its length octets and its
-- contents
abbrev pub element_count : Tag → ℕ → ℕ
element_count t n = length (tag_octets t) + length (length_octets n) + n

-- the length of an indefinite-length body without its end-of-contents octets, two zero octets
-- (8.1.5); a definite length is unchanged
abbrev pub sans_eoc : Length → Length
sans_eoc l = if is_indefinite l then indefinite_length (number l - 2) else l
