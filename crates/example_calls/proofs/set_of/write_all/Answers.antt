use Rattle.std.proofs.Common.{ap, length, take, length-append, arith}
use Rattle.std.proofs.lemmas.Result.{err_from_is_err_and}
use Rattle.example_calls.specs.AscendingStrings.{octets_of, joined_strings}
use Rattle.example_calls.proofs.SetOfLemmas.{within_all}
use Rattle.example_calls.proofs.set_of.write_all.Goals as goal

pub returns-in_err-encode_to_vec-clause-succeeds :
    goal.returns-in_err-encode_to_vec-clause-succeeds
returns-in_err-encode_to_vec-clause-succeeds c few space =
    let p = err_from_is_err_and c.from_residual.result c.from_residual.ensures.1 in
    let item = c.element-item.result in
    let before = joined_strings (octets_of (take c.loop-element.element-index c.args.elements.now)) in
    let most = within_all c.args.elements.now c.loop-element.element-index item c.loop-element-test.true c.element-item.is in
    let so_far = ap length c.loop-element.invariant in
    rw (p.1, p.2) (c.in_err-encode_to_vec.ensures.succeeds item.octets.counted (omega (arith, most, few)) (omega (arith, most, few, space, so_far, length-append c.args.out.now.items before)))
