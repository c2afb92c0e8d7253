use Rattle.std.proofs.Common.{arith, ℕ, ◌*◌, ◌+◌, ◌/◌, ◌%◌, ◌∙◌, sym, ap}
use Rattle.der_core.proofs.TagOrderLemmas.{high_number_fits, long_number}
use Rattle.der_core.proofs.tag.octets_number.Goals as goal

pub overflow_mul-result : goal.overflow_mul-result
overflow_mul-result c =
    let n : ℕ = c.number-number.result.0 in
    omega (arith, c.with_high_digits.ensures, high_number_fits c.first_octet_of-first.result (n / 128) (omega arith) (omega arith))

pub overflow_add-result : goal.overflow_add-result
overflow_add-result c =
    let n : ℕ = c.number-number.result.0 in
    omega (arith, c.with_high_digits.ensures, high_number_fits c.first_octet_of-first.result (n / 128) (omega arith) (omega arith))

pub returns : goal.returns
returns c =
    let n : ℕ = c.number-number.result.0 in
    ap (λ (m : ℕ). m * 256 + n % 128) c.with_high_digits.ensures
    ∙ sym (long_number c.args.tag c.first_octet_of-first.result n c.first_octet_of-first.ensures c.number-number.ensures (omega (arith, c.if-number-lt31.false)))
