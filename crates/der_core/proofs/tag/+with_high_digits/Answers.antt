use Rattle.std.proofs.Common.{arith, ℕ, ◌*◌, ◌+◌, ◌/◌, ◌%◌, ◌∙◌, sym, ap}
use Rattle.der_core.proofs.TagOrderLemmas.{high_number_more, high_number_fits}
use Rattle.der_core.proofs.tag.+with_high_digits.Goals as goal

pub overflow_mul-result : goal.overflow_mul-result
overflow_mul-result t c =
    let n : ℕ = c.args.number in
    omega (arith, c.with_high_digits.ensures, high_number_fits c.args.octet (n / 128) c.requires.one (omega (arith, c.requires.few)))

pub overflow_add-result-2 : goal.overflow_add-result-2
overflow_add-result-2 t c =
    let n : ℕ = c.args.number in
    omega (arith, c.with_high_digits.ensures, high_number_fits c.args.octet (n / 128) c.requires.one (omega (arith, c.requires.few)))

pub returns : goal.returns
returns t c =
    let n : ℕ = c.args.number in
    ap (λ (m : ℕ). m * 256 + (128 + n % 128)) c.with_high_digits.ensures
    ∙ sym (high_number_more c.args.octet n (omega (arith, c.if-number-eq0.false)))
