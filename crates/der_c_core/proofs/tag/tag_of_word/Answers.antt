use Rattle.std.proofs.Common.{◌≡◌, Some, sym, ap, ◌∙◌}
use Rattle.der_c_core.specs.TagWord.{tag_word}
use Rattle.der_c_core.proofs.TagWordLemmas.{word_said}
use Rattle.der_c_core.proofs.tag.tag_of_word.Goals as goal

pub returns-else-word_of-word-clause-none : goal.returns-else-word_of-word-clause-none
returns-else-word_of-word-clause-none c is t word =
    let same : Some c.in_ok-tag.tag ≡ Some t = sym (c.in_ok-tag.was) ∙ c.tag_of.ensures ∙ word_said c.args.word t word in
    let tag : c.in_ok-tag.tag ≡ t = cc in
    c.if-word_of-word.false (c.word_of.ensures ∙ ap tag_word tag ∙ word.1)
