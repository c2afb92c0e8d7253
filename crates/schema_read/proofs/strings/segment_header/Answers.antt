use Rattle.std.proofs.Common.{◌≡◌, true}
use Rattle.schema_read.proofs.ResultLemmas.{on_err}
use Rattle.schema_read.proofs.SegmentLemmas.{no_segment, no_segment_of_tag}
use Rattle.schema_read.proofs.strings.segment_header.Goals as goal

pub returns-in_err-header-clause-none : goal.returns-in_err-header-clause-none
returns-in_err-header-clause-none c = on_err c.from_residual.result (no_segment c.args.depth c.args.bits c.in_err-header.ensures.none)

pub returns-then-not-has_segment_tag-clause-none :
    goal.returns-then-not-has_segment_tag-clause-none
returns-then-not-has_segment_tag-clause-none c =
    no_segment_of_tag c.args.depth c.args.bits c.in_ok-header.ensures.next
    (λ tag. let on : c.has_segment_tag.result ≡ true = c.has_segment_tag.ensures.1 tag in let off = c.if-not-has_segment_tag.true in absurd (cc))
