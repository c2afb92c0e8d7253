use Rattle.std.proofs.Common.{arith, sym, inl, inr, ◌∙◌}
use Rattle.der_core.proofs.TagReadLemmas.{is_ber, not_ber, not_universal, found_known, found_low, found_high, found_longer, refused_unknown}
use Rattle.der_core.proofs.identifier.decode_number_after.Goals as goal
use Rattle.der_core.proofs.identifier.decode_number_after.Goals.{else-first-eq-SEGMENTS-via-then-first-eq-SEGMENTS+else-is_ber, else-first-eq-SEGMENTS-via-else-first-eq-SEGMENTS}

pub returns-then-is_universal-clause-ok : goal.returns-then-is_universal-clause-ok
returns-then-is_universal-clause-ok g c = found_known _ c.args.first 0 (c.is_universal.ensures.0 c.if-is_universal.true)

pub returns-then-is_ber-clause-ok : goal.returns-then-is_ber-clause-ok
returns-then-is_ber-clause-ok g c = found_low _ c.args.first 0 (sym c.encoding_rules.ensures ∙ is_ber c.is_ber.ensures c.if-is_ber.true) c.if-first-lt64.true (inl c.if-first-eq-SEGMENTS.true)

pub returns-then-first-lt64-clause-exact : goal.returns-then-first-lt64-clause-exact
returns-then-first-lt64-clause-exact g c reliable =
    refused_unknown c.if-first-lt64.true (not_universal c.args.first c.is_universal.ensures c.if-is_universal.false)
    (elim c.else-first-eq-SEGMENTS.branch [ else-first-eq-SEGMENTS-via-then-first-eq-SEGMENTS+else-is_ber w ↦ inl (sym w.encoding_rules.ensures ∙ not_ber w.is_ber.ensures w.if-is_ber.false) | else-first-eq-SEGMENTS-via-else-first-eq-SEGMENTS w ↦ inr w.if-first-eq-SEGMENTS.false ])
    (let reported = c.error.ensures.at_position in let kind = c.unknown.ensures in cc) c.error.ensures.failed

pub returns-then-low-lt31-clause-ok : goal.returns-then-low-lt31-clause-ok
returns-then-low-lt31-clause-ok g c = found_high _ c.args.first c.if-first-lt64.false (omega arith) c.if-low-lt31.true

pub returns-clause-ok : goal.returns-clause-ok
returns-clause-ok g c =
    found_longer (g.R.Reader.state c.args.reader.now) (g.R.Reader.state c.decode_long_number.new.reader) c.args.first c.decode_long_number.result c.if-first-lt64.false (omega arith) (omega arith)
    c.decode_long_number.ensures.ok
