use Rattle.std.proofs.Common.{Err, sym, ap, ◌∙◌, take, length, take_all, length-append, arith}
use Rattle.std.proofs.lemmas.Result.{err_from_is_err_and}
use Rattle.der.specs.Prelude.{checked_length, number}
use Rattle.der.specs.BorrowedOctets.{borrowed_octets}
use Rattle.der.proofs.PeekLemmas.{counted_ok, counted_err}
use Rattle.example_calls.specs.AscendingStrings.{octets_of, joined_strings, string_octets}
use Rattle.example_calls.proofs.SetOfLemmas.{string_count, uncounted, within_all, one_more}
use Rattle.example_calls.proofs.set_of.encoded_len_of.Goals as goal

pub returns-in_err-encoded_len : goal.returns-in_err-encoded_len
returns-in_err-encoded_len c =
    let p = err_from_is_err_and c.from_residual.result c.from_residual.ensures.1 in
    let far = counted_err _ _ (sym c.in_err-encoded_len.was ∙ c.encoded_len.ensures.exact) in
    let most = within_all c.args.elements.now c.loop-element.element-index c.element-item.result c.loop-element-test.true c.element-item.is in
    p.1 ∙ ap Err (p.2 ∙ far.1) ∙ sym (uncounted _ (omega (arith, far.0, most, string_count (borrowed_octets c.element-item.result))))

pub returns-in_err-len : goal.returns-in_err-len
returns-in_err-len c =
    let p = err_from_is_err_and c.from_residual-in_err-len.result c.from_residual-in_err-len.ensures.1 in
    let so_far = counted_ok _ _ c.loop-element.invariant in
    let one = counted_ok _ _ (sym c.in_ok-encoded_len.was ∙ c.encoded_len.ensures.exact) in
    let far = counted_err _ _ (sym c.in_err-len.was ∙ c.add.ensures) in
    let most = within_all c.args.elements.now c.loop-element.element-index c.element-item.result c.loop-element-test.true c.element-item.is in
    p.1 ∙ ap Err (p.2 ∙ far.1)
    ∙ sym (uncounted _ (omega (arith, far.0, most, ap number so_far.1, ap number one.1, string_count (borrowed_octets c.element-item.result))))

pub loop-element-preserved : goal.loop-element-preserved
loop-element-preserved c =
    let so_far = counted_ok _ _ c.loop-element.invariant in
    let one = counted_ok _ _ (sym c.in_ok-encoded_len.was ∙ c.encoded_len.ensures.exact) in
    let item = c.element-item.result in
    let before = joined_strings (octets_of (take c.loop-element.element-index c.args.elements.now)) in
    let more = one_more c.args.elements.now c.loop-element.element-index item c.loop-element-test.true c.element-item.is in
    sym c.in_ok-len.was ∙ c.add.ensures
    ∙ ap checked_length (omega (arith, ap number so_far.1, ap number one.1, string_count (borrowed_octets item), ap length more, length-append before (string_octets (borrowed_octets item))))

pub returns : goal.returns
returns c = c.loop-element.invariant ∙ ap (λ l. checked_length (length (joined_strings (octets_of l)))) (take_all _ _ c.loop-element-test.false)
