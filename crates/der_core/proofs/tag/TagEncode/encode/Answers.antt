use Rattle.std.proofs.Common.{arith, ◌≡◌, ℕ, ◌+◌, ◌/◌, ◌%◌, [], ◌∷◌, ◌++◌, length, length-append, sym, ap, subst, OnOk, Ok, Err}
use Rattle.std.proofs.lemmas.Result.{err_from_is_err_and}
use Rattle.der_core.specs.Writer.{appended_state, Writes, write_pieces}
use Rattle.der_core.specs.Encode.{single_octets, high_digits}
use Rattle.der_core.proofs.EncodeLemmas.{tag_spelled, appended_twice, pieces_then, one_piece, singly_then, singly_stop, space_after}
use Rattle.der_core.proofs.tag.TagEncode.encode.Goals as goal

pub returns-clause-ok : goal.returns-clause-ok
returns-clause-ok g c =
    let n : ℕ = c.number-number.result.0 in
    let x : ℕ = c.first_octet_of-2.result in
    let spelled = tag_spelled c.args.self.now x n c.first_octet_of-2.ensures c.number-number.ensures (omega (arith, c.if-number-lt31.false)) in
    subst (λ l. OnOk c.write_byte-3.result (g.W.Writer.state c.write_byte-3.new.self ≡ appended_state (g.W.Writer.state c.args.writer.now) l)) (sym spelled)
    (appended_twice (x ∷ []) (high_digits (n / 128) ++ n % 128 ∷ []) _ _ _ _ c.in_ok-write_byte.ensures.ok
    (appended_twice (high_digits (n / 128)) (n % 128 ∷ []) _ _ _ _ c.in_ok-encode_high_digits.ensures.ok c.write_byte-3.ensures.ok))

pub returns-clause-succeeds : goal.returns-clause-succeeds
returns-clause-succeeds g c can small alive space =
    let n : ℕ = c.number-number.result.0 in
    let x : ℕ = c.first_octet_of-2.result in
    let spelled = tag_spelled c.args.self.now x n c.first_octet_of-2.ensures c.number-number.ensures (omega (arith, c.if-number-lt31.false)) in
    let size = ap length spelled in
    let sum = length-append (high_digits (n / 128)) (n % 128 ∷ []) in
    let first = space_after (x ∷ []) (length (high_digits (n / 128)) + 1) (g.W.Writer.state c.args.writer.now) (g.W.Writer.state c.write_byte-2.new.self) c.in_ok-write_byte.ensures.ok alive (omega (arith, space, size, sum)) in
    let more = space_after (high_digits (n / 128)) 1 _ _ c.in_ok-encode_high_digits.ensures.ok first.0 first.1 in
    c.write_byte-3.ensures.succeeds more.0 more.1

pub returns-clause-exact : goal.returns-clause-exact
returns-clause-exact g c reliable =
    let n : ℕ = c.number-number.result.0 in
    let x : ℕ = c.first_octet_of-2.result in
    let spelled = tag_spelled c.args.self.now x n c.first_octet_of-2.ensures c.number-number.ensures (omega (arith, c.if-number-lt31.false)) in
    subst (λ l. Writes (write_pieces (single_octets l) (g.W.Writer.state c.args.writer.now)) c.write_byte-3.result (g.W.Writer.state c.write_byte-3.new.self)) (sym spelled)
    (pieces_then ((x ∷ []) ∷ []) (single_octets (high_digits (n / 128) ++ n % 128 ∷ [])) (g.W.Writer.state c.args.writer.now) (g.W.Writer.state c.write_byte-2.new.self) _ _ (one_piece (x ∷ []) (g.W.Writer.state c.args.writer.now) (g.W.Writer.state c.write_byte-2.new.self) (Ok tt) (c.in_ok-write_byte.ensures.exact reliable))
    (singly_then (high_digits (n / 128)) (n % 128) (g.W.Writer.state c.write_byte-2.new.self) (g.W.Writer.state c.encode_high_digits.new.writer) _ _ (c.in_ok-encode_high_digits.ensures.exact reliable) (c.write_byte-3.ensures.exact reliable)))

pub returns-in_err-encode_high_digits-clause-succeeds : goal.returns-in_err-encode_high_digits-clause-succeeds
returns-in_err-encode_high_digits-clause-succeeds g c can small alive space =
    let n : ℕ = c.number-number.result.0 in
    let x : ℕ = c.first_octet_of-2.result in
    let spelled = tag_spelled c.args.self.now x n c.first_octet_of-2.ensures c.number-number.ensures (omega (arith, c.if-number-lt31.false)) in
    let size = ap length spelled in
    let sum = length-append (high_digits (n / 128)) (n % 128 ∷ []) in
    let first = space_after (x ∷ []) (length (high_digits (n / 128))) (g.W.Writer.state c.args.writer.now) (g.W.Writer.state c.write_byte-2.new.self) c.in_ok-write_byte.ensures.ok alive (omega (arith, space, size, sum)) in
    let p = err_from_is_err_and c.from_residual-in_err-encode_high_digits.result c.from_residual-in_err-encode_high_digits.ensures.1 in
    rw (p.1) (c.in_err-encode_high_digits.ensures.succeeds first.0 first.1)

pub returns-in_err-encode_high_digits-clause-exact : goal.returns-in_err-encode_high_digits-clause-exact
returns-in_err-encode_high_digits-clause-exact g c reliable =
    let n : ℕ = c.number-number.result.0 in
    let x : ℕ = c.first_octet_of-2.result in
    let spelled = tag_spelled c.args.self.now x n c.first_octet_of-2.ensures c.number-number.ensures (omega (arith, c.if-number-lt31.false)) in
    let p = err_from_is_err_and c.from_residual-in_err-encode_high_digits.result c.from_residual-in_err-encode_high_digits.ensures.1 in
    rw (p.1, p.2) (subst (λ l. Writes (write_pieces (single_octets l) (g.W.Writer.state c.args.writer.now)) (Err c.in_err-encode_high_digits.field-0.0) (g.W.Writer.state c.encode_high_digits.new.writer)) (sym spelled)
    (pieces_then ((x ∷ []) ∷ []) (single_octets (high_digits (n / 128) ++ n % 128 ∷ [])) (g.W.Writer.state c.args.writer.now) (g.W.Writer.state c.write_byte-2.new.self) _ _ (one_piece (x ∷ []) (g.W.Writer.state c.args.writer.now) (g.W.Writer.state c.write_byte-2.new.self) (Ok tt) (c.in_ok-write_byte.ensures.exact reliable))
    (singly_stop (high_digits (n / 128)) (n % 128) (g.W.Writer.state c.write_byte-2.new.self) (g.W.Writer.state c.encode_high_digits.new.writer) _ (c.in_err-encode_high_digits.ensures.exact reliable))))
