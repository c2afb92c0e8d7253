use Rattle.std.proofs.Common.{◌≡◌, ◌+◌, ◌-◌, length, take, drop, ap, ◌∙◌, arith}
use Rattle.der_c_values.proofs.OidIsLemmas.{number_there, number_only, no_dot, octets_same, octets_apart}
use Rattle.der_c_values.proofs.oid_is.match_number.Goals as goal
use Rattle.der_c_values.proofs.oid_is.match_number.Goals.{else-end-text-via-then-end-text+else-text-end-ne46, else-end-text-via-else-end-text}

pub returns-then-ne-clause-none : goal.returns-then-ne-clause-none
returns-then-ne-clause-none c = λ more is.
    let both = number_only c.args.text.now c.args.at c.args.digits.now more (omega arith) is in
    let count : c.args.at + length c.args.digits.now - c.args.at ≡ length c.args.digits.now = omega arith in
    octets_apart _ c.args.digits.now c.ne.result c.ne.ensures c.if-ne.true (ap (λ n. take n (drop c.args.at c.args.text.now)) count ∙ both.0)

pub returns-then-text-end-ne46-clause-none : goal.returns-then-text-end-ne46-clause-none
returns-then-text-end-ne46-clause-none c = λ more is.
    let both = number_only c.args.text.now c.args.at c.args.digits.now more (omega arith) is in
    c.if-text-end-ne46.true (no_dot c.args.text.now (c.args.at + length c.args.digits.now) more c.if-end-text.true both.1)

pub returns-clause-some : goal.returns-clause-some
returns-clause-some c =
    let count : length c.args.digits.now ≡ c.args.at + length c.args.digits.now - c.args.at = omega arith in (
      omega arith,
      number_there c.args.text.now c.args.at c.args.digits.now (omega arith)
          (ap (λ n. take n (drop c.args.at c.args.text.now)) count ∙ octets_same _ c.args.digits.now c.ne.result c.ne.ensures c.if-ne.false)
          (λ inside. elim c.else-end-text.branch [
            | else-end-text-via-then-end-text+else-text-end-ne46 w ↦ w.if-text-end-ne46.false
            | else-end-text-via-else-end-text w ↦ let h = w.if-end-text.false in absurd (omega arith)
          ]),
    )
