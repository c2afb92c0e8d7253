-- Numbers in hexadecimal, as text.
use Rattle.std.proofs.Common.{◌≡◌, ℕ, ◌-◌, ◌^◌, false, [], length, refl, arith, append-nil}
use Rattle.std.specs.Fmt.{digits, padded_integral, format_spec, char_count}
use Rattle.der_base.specs.Text.{hexadecimal}

-- formatting with width two and zero padding
pub two_digits : (n : ℕ) → padded_integral (format_spec 32 0 4 2 (2 ^ 64 - 1)) false [] (digits 16 false n) ≡ hexadecimal n
unfolding padded_integral char_count
two_digits n =
    let short : 2 - length (digits 16 false n) - 0 - 0 ≡ 2 - length (digits 16 false n) = omega arith in
    rw (short, append-nil (digits 16 false n)) refl
