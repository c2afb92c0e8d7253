use Rattle.std.proofs.Common.{◌≡◌, true, false, sym, ◌∙◌}
use Rattle.der_c_core.proofs.MeetLemmas.{finds_met, finds_other, finds_no_tag, finds_error}
use Rattle.der_c_core.proofs.element.der_optional.Goals.{else-not-reader-via-then-not-reader+else-reader, else-not-reader-via-else-not-reader}
use Rattle.der_c_core.proofs.element.der_optional.Goals as goal

pub returns-then-met-tag-clause-finds : goal.returns-then-met-tag-clause-finds
returns-then-met-tag-clause-finds c = finds_met c.in-Ok.ensures.meets c.if-met-tag.true

pub returns-then-not-is_tag-clause-finds : goal.returns-then-not-is_tag-clause-finds
returns-then-not-is_tag-clause-finds c = finds_no_tag c.in-Ok.ensures.meets c.if-met-tag.false (c.is_tag.ensures.none c.if-not-is_tag.true) c.refuse_tag.ensures.refuses

pub returns-else-not-is_tag-clause-finds : goal.returns-else-not-is_tag-clause-finds
returns-else-not-is_tag-clause-finds c =
    let is = c.is_tag.ensures.some c.if-not-is_tag.false in
    finds_other c.in-Ok.ensures.meets c.if-met-tag.false is.0 is.1

pub returns-in-Err-clause-finds : goal.returns-in-Err-clause-finds
returns-in-Err-clause-finds c =
    finds_error (λ working ends. elim c.else-not-reader.branch [
      | else-not-reader-via-then-not-reader+else-reader w ↦ w.if-reader.false ends
      | else-not-reader-via-else-not-reader w ↦ absurd (let no : true ≡ false = sym w.if-not-reader.false ∙ working in cc)
    ]) c.in-Err.ensures.meets
