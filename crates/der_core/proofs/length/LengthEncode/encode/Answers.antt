use Rattle.std.proofs.Common.{arith, ℕ, ◌-◌, ◌∙◌, [], ◌∷◌, sym, subst, ap, take, drop, w32}
use Rattle.std.specs.Int.{to_be_bytes}
use Rattle.std.proofs.lemmas.List.{take_rest}
use Rattle.der_base.specs.Length.{number}
use Rattle.der_core.specs.Writer.{Appends, Writes, write_pieces}
use Rattle.der_core.specs.Encode.{first_and_others}
use Rattle.der_core.proofs.EncodeLemmas.{one_octet, one_piece, length_appended, length_outcome_of}
use Rattle.der_core.proofs.length.LengthEncode.encode.Goals as goal

pub returns-then-digits-eq0-clause-ok : goal.returns-then-digits-eq0-clause-ok
returns-then-digits-eq0-clause-ok g c =
    let size = c.octet_count-digits.ensures in
    let e = one_octet c.from-number.result (number c.args.self.now) c.from-number.ensures (omega (arith, size.some, size.octets, c.if-digits-eq0.true)) in
    subst (λ l. Appends (g.W.Writer.state c.args.writer.now) l c.write_byte.result (g.W.Writer.state c.write_byte.new.self)) (sym e) c.write_byte.ensures.ok

pub returns-then-digits-eq0-clause-exact : goal.returns-then-digits-eq0-clause-exact
returns-then-digits-eq0-clause-exact g c reliable =
    let size = c.octet_count-digits.ensures in
    let e = one_octet c.from-number.result (number c.args.self.now) c.from-number.ensures (omega (arith, size.some, size.octets, c.if-digits-eq0.true)) in
    subst (λ l. Writes (write_pieces (first_and_others l) (g.W.Writer.state c.args.writer.now)) c.write_byte.result (g.W.Writer.state c.write_byte.new.self)) (sym e)
    (one_piece (c.from-number.result ∷ []) (g.W.Writer.state c.args.writer.now) _ _ (c.write_byte.ensures.exact reliable))

pub returns-clause-ok : goal.returns-clause-ok
returns-clause-ok g c =
    let size = c.octet_count-digits.ensures in
    let k : ℕ = c.octet_count-digits.result - 1 in
    length_appended k (number c.args.self.now) _ _ _ _ _ (omega (arith, size.some, c.if-digits-eq0.false)) (omega (arith, size.most)) (omega (arith, size.octets, size.some)) (ap (λ l. take (4 - (4 - k)) (drop (4 - k) l)) (c.to_be_bytes.ensures ∙ ap (to_be_bytes w32) c.from-number.ensures) ∙ take_rest (to_be_bytes w32 (number c.args.self.now)) (4 - k)) c.in_ok-write_byte.ensures.ok c.write.ensures.ok

pub returns-clause-exact : goal.returns-clause-exact
returns-clause-exact g c reliable =
    let size = c.octet_count-digits.ensures in
    let k : ℕ = c.octet_count-digits.result - 1 in
    length_outcome_of k (number c.args.self.now) _ _ _ _ _ (omega (arith, size.some, c.if-digits-eq0.false)) (omega (arith, size.most)) (omega (arith, size.octets, size.some)) (ap (λ l. take (4 - (4 - k)) (drop (4 - k) l)) (c.to_be_bytes.ensures ∙ ap (to_be_bytes w32) c.from-number.ensures) ∙ take_rest (to_be_bytes w32 (number c.args.self.now)) (4 - k)) (c.in_ok-write_byte.ensures.exact reliable) (c.write.ensures.exact reliable)
