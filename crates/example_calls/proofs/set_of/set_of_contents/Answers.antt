use Rattle.std.proofs.Common.{[], refl, sym, ◌∙◌, append-nil}
use Rattle.std.proofs.lemmas.Result.{err_from_is_err_and}
use Rattle.der.specs.Prelude.{number, slice_state}
use Rattle.der.proofs.DecodeLemmas.{remaining_ok}
use Rattle.example_calls.specs.AscendingStrings.{joined_strings}
use Rattle.example_calls.proofs.SetReadLemmas.{slice_sound, header_count, header_position, whole_set, set_finished, order_refused, order_result_moves}
use Rattle.example_calls.proofs.set_of.set_of_contents.Goals as goal

pub returns-in_err-pass_contents-clause-exact : goal.returns-in_err-pass_contents-clause-exact
returns-in_err-pass_contents-clause-exact c strings short e =
    let p = err_from_is_err_and c.from_residual-in_err-pass_contents.result c.from_residual-in_err-pass_contents.ensures.1 in
    let s = slice_state c.in_ok-reader.reader in
    let t = slice_state c.set_header.new.reader in
    let n = number c.in_ok-len.len in
    let all = joined_strings strings in
    let counted = header_count c.args.octets.now s t n c.in_ok-reader.ensures.ok c.in_ok-len.ensures.ok strings e in
    rw (p.1, p.2)
    (order_refused _ strings all c.pass_contents.result _ c.in_err-pass_contents.was (header_position c.args.octets.now s t n c.in_ok-reader.ensures.ok c.in_ok-len.ensures.ok strings e)
    (c.pass_contents.ensures.exact strings [] (counted.1 ∙ sym (append-nil all)) counted.0))

pub returns-in_err-finish-clause-exact : goal.returns-in_err-finish-clause-exact
returns-in_err-finish-clause-exact c strings short e =
    let s = slice_state c.in_ok-reader.reader in
    let t = slice_state c.set_header.new.reader in
    let passed = c.in_ok-pass_contents.ensures.ok in
    let finished = set_finished c.args.octets.now s t (number c.in_ok-len.len) c.in_ok-reader.ensures.ok c.in_ok-len.ensures.ok (slice_state c.pass_contents.new.reader) strings (slice_sound c.set_header.new.reader) e passed.0 passed.1 in
    absurd (let no = sym c.in_err-finish.was ∙ c.finish.ensures.exact refl ∙ finished in cc)

pub returns-clause-ok : goal.returns-clause-ok
returns-clause-ok c =
    let passed = c.in_ok-pass_contents.ensures.ok in
    whole_set c.args.octets.now (slice_state c.in_ok-reader.reader) (slice_state c.set_header.new.reader) (number c.in_ok-len.len) c.in_ok-reader.ensures.ok c.in_ok-len.ensures.ok
    (slice_state c.pass_contents.new.reader) c.in_ok-contents.contents.now c.in_ok-contents.ensures.ok passed.0 passed.1 c.in_ok-finish.ensures.ok

pub returns-clause-exact : goal.returns-clause-exact
returns-clause-exact c strings short e =
    let s = slice_state c.in_ok-reader.reader in
    let t = slice_state c.set_header.new.reader in
    let n = number c.in_ok-len.len in
    let all = joined_strings strings in
    let counted = header_count c.args.octets.now s t n c.in_ok-reader.ensures.ok c.in_ok-len.ensures.ok strings e in
    let contents = c.in_ok-contents.contents.now in
    order_result_moves _ strings all contents c.pass_contents.result _ c.in_ok-pass_contents.was ((remaining_ok t contents c.in_ok-contents.ensures.ok).1 ∙ counted.1)
    (c.pass_contents.ensures.exact strings [] (counted.1 ∙ sym (append-nil all)) counted.0)
