use Rattle.std.proofs.Common.{◌+◌, ◌-◌, ◌<◌, ◌≡◌, get_or, arith, true, false, sym, ◌∙◌, ⊎_elim}
use Rattle.der_c_values.proofs.DottedArcLemmas.{Ends, ends_at_end, ends_inside, reading_continues, no_dot_after, no_number, number_is_there}
use Rattle.der_c_values.proofs.dotted_arc.DottedArc.read.Goals as goal
use Rattle.der_c_values.proofs.dotted_arc.DottedArc.read.Goals.{then-digits-test+else-is_ascii_digit, else-digits-test, else-is_dot-via-then-is_dot+else-is_number, else-is_dot-via-else-is_dot}

pub digits-preserved : goal.digits-preserved
digits-preserved c =
    let digit = c.if-is_ascii_digit.ensures.cases in
    let o = get_or c.args.text.now c.digits.end 0 in
    let is : o ≡ 48 + (o - 48) = omega (arith, digit.0) in
    let small : o - 48 < 10 = omega (arith, digit.0, digit.1) in
    reading_continues c.args.text.now _ c.digits.invariant c.digits-test.true is small c.with_digit-number.ensures

pub returns-then-is_number : goal.returns-then-is_number
returns-then-is_number c =
    let ends : Ends c.args.text.now c.digits.end = elim c.digits-test.branch [
      | then-digits-test+else-is_ascii_digit w ↦
          ends_inside c.args.text.now c.digits.end w.digits-test.true
          (λ d small is. ⊎_elim (λ l. omega arith) (λ g. omega arith) w.if-is_ascii_digit.ensures.cases)
      | else-digits-test w ↦ ends_at_end c.args.text.now c.digits.end (omega (arith, w.digits-test.false, c.digits.invariant.within))
    ] in
    number_is_there c.args.text.now c.digits.invariant ends (c.is_dot.ensures.0 c.if-is_dot.true) (c.is_number.ensures.0 c.if-is_number.true)

pub returns-else-is_dot : goal.returns-else-is_dot
returns-else-is_dot c =
    let ends : Ends c.args.text.now c.digits.end = elim c.digits-test.branch [
      | then-digits-test+else-is_ascii_digit w ↦
          ends_inside c.args.text.now c.digits.end w.digits-test.true
          (λ d small is. ⊎_elim (λ l. omega arith) (λ g. omega arith) w.if-is_ascii_digit.ensures.cases)
      | else-digits-test w ↦ ends_at_end c.args.text.now c.digits.end (omega (arith, w.digits-test.false, c.digits.invariant.within))
    ] in
    elim c.else-is_dot.branch [
      | else-is_dot-via-then-is_dot+else-is_number w ↦
          no_number c.args.text.now c.digits.invariant ends (λ shape. absurd (let no : true ≡ false = sym (w.is_number.ensures.1 shape) ∙ w.if-is_number.false in cc))
      | else-is_dot-via-else-is_dot w ↦
          no_dot_after c.args.text.now c.digits.invariant ends (λ dot. absurd (let no : true ≡ false = sym (c.is_dot.ensures.1 dot) ∙ w.if-is_dot.false in cc))
    ]
