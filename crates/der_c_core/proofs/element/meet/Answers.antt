use Rattle.std.proofs.Common.{refl, sym, ap, ◌∙◌}
use Rattle.der_c_core.specs.ElementCalls.{met, other_tag}
use Rattle.der_c_core.proofs.MeetLemmas.{word_found}
use Rattle.der_c_core.proofs.ShortLemmas.{short_octets, short_slice, short_returned}
use Rattle.der_c_core.proofs.element.meet.Goals as goal

pub returns-then-met-tag-clause-meets : goal.returns-then-met-tag-clause-meets
returns-then-met-tag-clause-meets c =
    let p = c.in-Some.ensures in
    other_tag p.header _ p.passed (λ e. c.if-met-tag.true (sym p.word ∙ e)) (ap word_found (sym p.word)) refl refl

pub returns-in-Some-clause-meets : goal.returns-in-Some-clause-meets
returns-in-Some-clause-meets c =
    let p = c.in-Some.ensures in
    met p.header _ (short_octets p) p.passed (p.word ∙ c.if-met-tag.false) refl (short_slice p) (short_returned p c.short_value.ensures)
