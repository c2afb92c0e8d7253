use Rattle.std.proofs.Common.{arith, ◌≡◌, ℕ, ◌+◌, ◌/◌, ◌%◌, [], ◌∷◌, sym, subst, OnOk, Err}
use Rattle.std.proofs.lemmas.Result.{err_from_is_err_and}
use Rattle.std.proofs.lemmas.Int.Digits.{length-digits_of_step}
use Rattle.der_core.specs.Writer.{appended_state, Writes, write_pieces}
use Rattle.der_core.specs.Encode.{single_octets, high_digits}
use Rattle.der_core.proofs.EncodeLemmas.{high_push, length_high_digits, appended_twice, singly_then, singly_stop, space_after}
use Rattle.der_core.proofs.tag.+encode_high_digits.Goals as goal

pub returns-clause-ok : goal.returns-clause-ok
returns-clause-ok g t c =
    let n : ℕ = c.args.number in
    subst (λ l. OnOk c.write_byte.result (g.W.Writer.state c.write_byte.new.self ≡ appended_state (g.W.Writer.state c.args.writer.now) l)) (sym (high_push n (omega (arith, c.if-number-eq0.false))))
    (appended_twice (high_digits (n / 128)) ((128 + n % 128) ∷ []) _ _ _ _ c.in_ok-encode_high_digits.ensures.ok c.write_byte.ensures.ok)

pub returns-clause-succeeds : goal.returns-clause-succeeds
returns-clause-succeeds g t c alive space =
    let n : ℕ = c.args.number in
    let step = length-digits_of_step 128 n (omega arith) (omega (arith, c.if-number-eq0.false)) in
    let more = space_after (high_digits (n / 128)) 1 _ _ c.in_ok-encode_high_digits.ensures.ok alive (omega (arith, space, step, length_high_digits n, length_high_digits (n / 128))) in
    c.write_byte.ensures.succeeds more.0 more.1

pub returns-clause-exact : goal.returns-clause-exact
returns-clause-exact g t c reliable =
    let n : ℕ = c.args.number in
    subst (λ l. Writes (write_pieces (single_octets l) (g.W.Writer.state c.args.writer.now)) c.write_byte.result (g.W.Writer.state c.write_byte.new.self)) (sym (high_push n (omega (arith, c.if-number-eq0.false))))
    (singly_then (high_digits (n / 128)) (128 + n % 128) _ _ _ _ (c.in_ok-encode_high_digits.ensures.exact reliable) (c.write_byte.ensures.exact reliable))

pub returns-in_err-encode_high_digits-clause-succeeds : goal.returns-in_err-encode_high_digits-clause-succeeds
returns-in_err-encode_high_digits-clause-succeeds g t c alive space =
    let n : ℕ = c.args.number in
    let step = length-digits_of_step 128 n (omega arith) (omega (arith, c.if-number-eq0.false)) in
    let p = err_from_is_err_and c.from_residual.result c.from_residual.ensures.1 in
    rw (p.1) (c.in_err-encode_high_digits.ensures.succeeds alive (omega (arith, space, step, length_high_digits n, length_high_digits (n / 128))))

pub returns-in_err-encode_high_digits-clause-exact : goal.returns-in_err-encode_high_digits-clause-exact
returns-in_err-encode_high_digits-clause-exact g t c reliable =
    let n : ℕ = c.args.number in
    let p = err_from_is_err_and c.from_residual.result c.from_residual.ensures.1 in
    rw (p.1, p.2) (subst (λ l. Writes (write_pieces (single_octets l) (g.W.Writer.state c.args.writer.now)) (Err c.in_err-encode_high_digits.field-0.0) (g.W.Writer.state c.encode_high_digits.new.writer)) (sym (high_push n (omega (arith, c.if-number-eq0.false))))
    (singly_stop (high_digits (n / 128)) (128 + n % 128) _ _ _ (c.in_err-encode_high_digits.ensures.exact reliable)))
