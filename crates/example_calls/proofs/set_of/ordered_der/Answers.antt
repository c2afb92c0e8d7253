use Rattle.std.proofs.Common.{◌∙◌, sym, ap, length, length-append, arith}
use Rattle.std.proofs.lemmas.Result.{err_from_is_err_and}
use Rattle.der.specs.Prelude.{Head, header_octets, number, length_octets, tag_octets, Set}
use Rattle.der.proofs.LengthLemmas.{length_octets_few}
use Rattle.der.proofs.PeekLemmas.{counted_ok}
use Rattle.example_calls.proofs.set_of.ordered_der.Goals as goal

pub returns-in_err-encode_to_vec-clause-succeeds :
    goal.returns-in_err-encode_to_vec-clause-succeeds
returns-in_err-encode_to_vec-clause-succeeds c few =
    let p = err_from_is_err_and c.from_residual-in_err-encode_to_vec.result c.from_residual-in_err-encode_to_vec.ensures.1 in
    let n = number c.in_ok-len.len in
    let counted = counted_ok _ _ (sym c.in_ok-len.was ∙ c.encoded_len_of.ensures) in
    let header = ap (λ (h : Head). length (header_octets h.tag (number h.length))) c.new.ensures ∙ length-append (tag_octets Set) (length_octets n) in
    let short = length_octets_few n (omega (arith, few, ap number counted.1)) in
    rw (p.1, p.2) (c.in_err-encode_to_vec.ensures.succeeds tt (omega (arith, header, short)) (omega (arith, header, short)))
