use Rattle.std.proofs.Common.{true, false, ◌≡◌, refl, sym, ◌∙◌}
use Rattle.std.proofs.lemmas.Result.{err_from_is_err_and}
use Rattle.der_core.proofs.StateLemmas.{same_trans}
use Rattle.der_core.proofs.HeaderReadLemmas.{passed_header, header_tag_refused, header_length_refused, header_primitive}
use Rattle.der_core.proofs.DecodeLemmas.{decoded_ok, decoded_err}
use Rattle.der_core.proofs.header.decode_in_pieces.Goals as goal
use Rattle.der_core.proofs.header.decode_in_pieces.Goals.{else-is_indefinite-via-then-is_indefinite+else-not-is_constructed, else-is_indefinite-via-else-is_indefinite}

pub returns-in_err-identifier : goal.returns-in_err-identifier
returns-in_err-identifier g c =
    let p = err_from_is_err_and c.from_residual.result c.from_residual.ensures.1 in
    rw (p.1, p.2) (decoded_err c.in_err-identifier.ensures.same (λ reliable. header_tag_refused (c.in_err-identifier.ensures.refused reliable)))

pub returns-in_err-length : goal.returns-in_err-length
returns-in_err-length g c =
    let p = err_from_is_err_and c.from_residual-in_err-length.result c.from_residual-in_err-length.ensures.1 in
    let read = c.in_ok-identifier.ensures.ok in
    rw (p.1, p.2) (decoded_err (same_trans c.in_ok-identifier.ensures.same c.in_err-length.ensures.same)
    (λ reliable. header_length_refused read refl (c.in_err-length.ensures.refused reliable)))

pub returns-then-not-is_constructed : goal.returns-then-not-is_constructed
returns-then-not-is_constructed g c =
    decoded_err (same_trans (same_trans c.in_ok-identifier.ensures.same c.in_ok-length.ensures.same) c.error.ensures.same)
    (λ reliable. header_primitive c.in_ok-identifier.ensures.ok (sym c.if-not-is_constructed.ensures) c.in_ok-length.ensures.ok (sym c.if-is_indefinite.ensures) c.error.ensures.at_position c.error.ensures.failed)

pub returns : goal.returns
returns g c =
    decoded_ok (same_trans c.in_ok-identifier.ensures.same c.in_ok-length.ensures.same)
    (passed_header c.in_ok-identifier.ensures.ok c.in_ok-length.ensures.ok
    (λ flagged. elim c.else-is_indefinite.branch [
      | else-is_indefinite-via-then-is_indefinite+else-not-is_constructed w ↦ (let bit = w.is_constructed.ensures in let is = w.if-not-is_constructed.false in cc)
      | else-is_indefinite-via-else-is_indefinite w ↦ absurd (let is = w.if-is_indefinite.false in let reported = c.is_indefinite.ensures in let no : false ≡ true = sym is ∙ reported ∙ flagged in cc)
    ]))
