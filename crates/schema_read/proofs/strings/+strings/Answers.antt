use Rattle.std.proofs.Common.{rules, ◌≡◌, ◌↔◌, ◌∙◌, true, [], Some, length, IfOk, sym, ap, subst, arith}
use Rattle.der_base.specs.declared.encoding_rules.EncodingRules.{EncodingRules}
use Rattle.schema_read.specs.Text.{text_of}
use Rattle.schema_read.specs.Verdict.{holds, worst}
use Rattle.schema_read.specs.Value.{IsPrimitive}
use Rattle.schema_read.specs.Strings.{HasText, IsSegment}
use Rattle.schema_read.specs.StringReading.{BeginsAfter, BodyAfter, Reads}
use Rattle.schema_read.proofs.VerdictLemmas.{worst_neither, logs_is, logs_then, logs_after, logs_left}
use Rattle.schema_read.proofs.FindsLemmas.{body_at}
use Rattle.schema_read.proofs.ItemLemmas.{goes_on, has_ended}
use Rattle.schema_read.proofs.UntypedLemmas.{test_is}
use Rattle.schema_read.proofs.SegmentLemmas.{reads_is, reads_as, reads_never, stage_is, stage_then, stage_ends, segment_reads, no_segment_cut, reads_primitive, more_own, segments_end, segment_found}
use Rattle.schema_read.proofs.strings.+strings.Goals as goal

pub segment-returns-in_ok-outcome-in-Some-clause-reads :
    goal.segment-returns-in_ok-outcome-in-Some-clause-reads
segment-returns-in_ok-outcome-in-Some-clause-reads t c =
    reads_is c.and.ensures
    (segment_reads c.args.depth c.args.bits (text_of c.args.text.now) c.in-Ok.ensures.some c.in-Some.ensures.some c.in-Ok.ensures.tag
    c.in_ok-allowed.ensures.verdict c.in_ok-outcome-in-Some.ensures.reads)

pub segment-returns-in_ok-outcome-in-Some-clause-log :
    goal.segment-returns-in_ok-outcome-in-Some-clause-log
segment-returns-in_ok-outcome-in-Some-clause-log t c =
    logs_is c.and.ensures (logs_left c.leave.ensures.log (logs_after c.in_ok-at.ensures.log (logs_then c.in_ok-allowed.ensures.log c.in_ok-outcome-in-Some.ensures.log)))

pub segment-returns-in_ok-cut-in-None-clause-reads :
    goal.segment-returns-in_ok-cut-in-None-clause-reads
segment-returns-in_ok-cut-in-None-clause-reads t c =
    reads_never (c.and-in-None.ensures ∙ ap (λ v. worst c.in_ok-allowed.allowed v) c.in_ok-cut-in-None.ensures.verdict ∙ worst_neither c.in_ok-allowed.allowed)
    (no_segment_cut c.args.depth c.args.bits (text_of c.args.text.now) c.in-None.ensures.none.0 c.in-Ok.ensures.next c.in-None.ensures.none.1 c.in-None.ensures.none.2)

pub segment-returns-in_ok-cut-in-None-clause-log :
    goal.segment-returns-in_ok-cut-in-None-clause-log
segment-returns-in_ok-cut-in-None-clause-log t c =
    logs_is c.and-in-None.ensures (logs_after c.in_ok-at.ensures.log (logs_then c.in_ok-allowed.ensures.log c.in_ok-cut-in-None.ensures.log))

pub segment_contents-returns-then-constructed-clause-reads :
    goal.segment_contents-returns-then-constructed-clause-reads
segment_contents-returns-then-constructed-clause-reads t c =
    subst (λ k. IfOk c.segments.result (λ o. Reads (BodyAfter c.args.opened.marked c.args.opened.beyond.now c.args.bits (text_of c.args.text.now) (HasText c.args.bits (IsSegment c.args.depth c.args.bits) k) c.args.opened.inside.octets.now) o.verdict o.rest.now (text_of c.segments.new.text)))
    (sym c.if-constructed.true) c.segments.ensures.reads

pub segment_contents-returns-clause-reads : goal.segment_contents-returns-clause-reads
segment_contents-returns-clause-reads t c =
    reads_primitive c.args.bits (IsSegment c.args.depth c.args.bits) (text_of c.args.text.now) c.args.opened.inside.octets.now
    c.if-constructed.false (c.requires.form c.if-constructed.false)
    (subst (λ u. (rules : EncodingRules) → (holds rules c.in_ok-verdict.verdict ≡ true) ↔ IsPrimitive rules (Some u) c.args.opened.inside.octets.now) c.type_of_segments.ensures
    (test_is c.in_ok-verdict.ensures.verdict c.primitive_rule-rule.ensures))
    c.in_ok-append.ensures.joined

pub segments-segments-preserved : goal.segments-segments-preserved
segments-segments-preserved t c =
    let m = c.args.opened.marked in
    let b = c.args.opened.beyond.now in
    let now = c.segments.rest.now in
    let verdict = c.and-verdict.ensures ∙ ap (λ v. worst c.segments.verdict v) c.and.ensures in
    let on = goes_on c.is_ended.result c.is_ended.ensures c.at.ensures.marked c.at.ensures.octets (search rules) in
    let reads = subst (λ o. Reads (BeginsAfter c.args.bits (IsSegment c.args.depth c.args.bits) (text_of c.make_whole.new.text) o) c.in_ok-outcome.outcome.verdict c.in_ok-outcome.outcome.rest.now (text_of c.segment.new.text)) c.at-place.ensures.octets c.in_ok-outcome.ensures.reads in
    record {
      stage = stage_is verdict (stage_then c.segments.invariant.stage (segment_found c.args.bits m b (text_of c.segments.text) now c.in_ok-whole.whole on c.in_ok-whole.ensures.verdict c.in_ok-whole.ensures.same reads));
      text = c.in_ok-outcome.ensures.text;
      log = logs_is verdict (logs_then c.segments.invariant.log (logs_then c.in_ok-whole.ensures.log c.in_ok-outcome.ensures.log));
      end = c.in_ok-outcome.ensures.end ∙ c.in_ok-whole.ensures.end ∙ c.segments.invariant.end;
      shorter = omega (arith, c.segments.invariant.shorter, c.in_ok-outcome.ensures.shorter, ap length c.at-place.ensures.octets);
    }

pub segments-returns-clause-reads : goal.segments-returns-clause-reads
segments-returns-clause-reads t c =
    let m = c.args.opened.marked in
    let b = c.args.opened.beyond.now in
    let now = c.segments.rest.now in
    let at = has_ended c.is_ended.result c.is_ended.ensures c.at.ensures.marked c.at.ensures.octets (search rules) in
    let end = body_at (λ rules inner. inner ≡ []) c.at-2.ensures.marked c.at-2.ensures.beyond c.at-2.ensures.octets c.in_ok-end.ensures.finds in
    reads_is c.and-2.ensures
    (reads_as (more_own c.args.bits m (IsSegment c.args.depth c.args.bits) b (text_of c.args.text.now) c.args.opened.inside.octets.now c.requires.whole)
    (stage_ends c.segments.invariant.stage
    (segments_end c.args.depth c.args.bits m b (text_of c.segments.text) now c.segments.invariant.text at end)))

pub segments-returns-clause-log : goal.segments-returns-clause-log
segments-returns-clause-log t c =
    logs_is c.and-2.ensures (logs_then c.segments.invariant.log c.in_ok-end.ensures.log)
