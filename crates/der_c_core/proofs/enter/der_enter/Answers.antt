use Rattle.std.proofs.Common.{refl, sym, ◌∙◌}
use Rattle.der_c_core.specs.EnterCalls.{other_tag, following}
use Rattle.der_c_core.proofs.ShortLemmas.{short_enters}
use Rattle.der_c_core.proofs.enter.der_enter.Goals as goal

pub returns-then-next-tag-clause-enters : goal.returns-then-next-tag-clause-enters
returns-then-next-tag-clause-enters c =
    let p = c.in-Some.ensures in
    other_tag p.header _ p.passed (λ e. c.if-next-tag.true (sym p.word ∙ e)) (rw (sym p.word) at c.refuse_tag.ensures.refuses) refl

pub returns-then-reader-lt-MAX_DEPTH-clause-enters : goal.returns-then-reader-lt-MAX_DEPTH-clause-enters
returns-then-reader-lt-MAX_DEPTH-clause-enters c =
    let p = c.in-Some.ensures in
    following p.header _ p.passed (p.word ∙ c.if-next-tag.false) (short_enters p c.if-reader-lt-MAX_DEPTH.true refl)
