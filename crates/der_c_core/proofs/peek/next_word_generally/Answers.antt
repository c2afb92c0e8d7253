use Rattle.std.proofs.Common.{ap, ◌∙◌}
use Rattle.std.proofs.lemmas.Result.{err_from_is_err_and}
use Rattle.der_c_core.specs.PeekCalls.{next, refused}
use Rattle.der_c_core.specs.TagWord.{tag_word}
use Rattle.der_c_core.proofs.NextTagLemmas.{peeked_tag, peeked_fault, answered, refusal}
use Rattle.der_c_core.proofs.peek.next_word_generally.Goals as goal

pub returns-in_err-peek_tag : goal.returns-in_err-peek_tag
returns-in_err-peek_tag c =
    let p = err_from_is_err_and c.from_residual.result c.from_residual.ensures.1 in
    refused c.in_err-peek_tag.field-0.0 (peeked_fault c.in_err-peek_tag.ensures) (p.1 ∙ ap refusal p.2)

pub returns : goal.returns
returns c = next (tag_word c.in_ok-peek_tag.field-0) (peeked_tag c.in_ok-peek_tag.ensures) (ap answered c.word_of.ensures)
