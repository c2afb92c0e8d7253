use Rattle.std.proofs.Common.{◌≡◌, true, false, sym, ◌∙◌, rules, arith}
use Rattle.std.proofs.lemmas.Result.{err_from_is_err_and}
use Rattle.der_core.proofs.NestedLemmas.{same_closed}
use Rattle.der_core.proofs.StateLemmas.{same_trans, same_here}
use Rattle.der.specs.Joining.{no_segment}
use Rattle.der.proofs.JoiningLemmas.{appends_none, appends_after, octets_appended, octets_refused, segments_refuse}
use Rattle.der.proofs.NestedSegmentLemmas.{enters_segment, not_entered_segment, nested_ok, nested_refused}
use Rattle.der.proofs.length.indefinite.+append_segments.Goals as goal

pub segments-init : goal.segments-init
segments-init g t c = record { same = same_here _ (g.met.R.Reader.sound_state c.args.reader.now); so_far = appends_none _ _ _ _ }

pub returns-in_err-header-clause-exact : goal.returns-in_err-header-clause-exact
returns-in_err-header-clause-exact g t c =
    let p = err_from_is_err_and c.from_residual.result c.from_residual.ensures.1 in
    rw (p.1, p.2) (λ reliable. segments_refuse c.segments.invariant.so_far (g.met.R.Reader.sound_state c.segments.reader)
    (λ e. absurd (let no = c.is_finished.ensures.1 e in let f = c.segments-test.true in let w : false ≡ true = search rules in cc))
    (no_segment (c.in_err-header.ensures.exact reliable)))

pub returns-in_err-outer-clause-exact : goal.returns-in_err-outer-clause-exact
returns-in_err-outer-clause-exact g t c =
    let p = err_from_is_err_and c.from_residual-in_err-outer.result c.from_residual-in_err-outer.ensures.1 in
    rw (p.1, p.2) (λ reliable. segments_refuse c.segments.invariant.so_far (g.met.R.Reader.sound_state c.segments.reader)
    (λ e. absurd (let no = c.is_finished.ensures.1 e in let f = c.segments-test.true in let w : false ≡ true = search rules in cc))
    (not_entered_segment c.in_ok-header.ensures.ok c.is_constructed.ensures c.if-is_constructed.true c.length.ensures c.sans_eoc-length.ensures (c.in_err-outer.ensures.exact reliable)))

pub segments-smaller-in-Continue-branch-3 : goal.segments-smaller-in-Continue-branch-3
segments-smaller-in-Continue-branch-3 g t c =
    let entered = enters_segment (g.met.R.Reader.sound_state c.segment_header.new.reader) c.in_ok-header.ensures.ok c.is_constructed.ensures c.if-is_constructed.true c.length.ensures c.sans_eoc-length.ensures c.in_ok-outer.ensures.exact in
    let read = nested_ok _ _ _ _ _ _ _ _ _ entered c.append_segments-answer.result c.in_ok-close_value.field-0 c.append_segments-answer.ensures.ok c.append_segments-answer.ensures.to_the_end (c.in_ok-close_value.ensures.exact tt) in
    let same = same_trans c.segment_header.ensures.same (same_closed entered.way c.append_segments-answer.ensures.same c.close_value.ensures.same) in
    omega (arith, read.forward, same.end, same.within)

pub segments-preserved-in-Continue-branch-3 : goal.segments-preserved-in-Continue-branch-3
segments-preserved-in-Continue-branch-3 g t c =
    let h = c.segments.invariant in
    let entered = enters_segment (g.met.R.Reader.sound_state c.segment_header.new.reader) c.in_ok-header.ensures.ok c.is_constructed.ensures c.if-is_constructed.true c.length.ensures c.sans_eoc-length.ensures c.in_ok-outer.ensures.exact in
    let read = nested_ok _ _ _ _ _ _ _ _ _ entered c.append_segments-answer.result c.in_ok-close_value.field-0 c.append_segments-answer.ensures.ok c.append_segments-answer.ensures.to_the_end (c.in_ok-close_value.ensures.exact tt) in
    let same = same_trans c.segment_header.ensures.same (same_closed entered.way c.append_segments-answer.ensures.same c.close_value.ensures.same) in
    record { same = same_trans h.same same; so_far = appends_after h.same h.so_far read.appends }

pub returns-in_err-close_value-clause-exact : goal.returns-in_err-close_value-clause-exact
returns-in_err-close_value-clause-exact g t c =
    let p = err_from_is_err_and c.from_residual-in_err-close_value.result c.from_residual-in_err-close_value.ensures.1 in
    let entered = enters_segment (g.met.R.Reader.sound_state c.segment_header.new.reader) c.in_ok-header.ensures.ok c.is_constructed.ensures c.if-is_constructed.true c.length.ensures c.sans_eoc-length.ensures c.in_ok-outer.ensures.exact in
    rw (p.1, p.2) (λ reliable. segments_refuse c.segments.invariant.so_far (g.met.R.Reader.sound_state c.segments.reader)
    (λ e. absurd (let no = c.is_finished.ensures.1 e in let f = c.segments-test.true in let w : false ≡ true = search rules in cc))
    (nested_refused _ _ _ _ _ _ _ _ _ entered _ _ c.append_segments-answer.result c.in_err-close_value.field-0.0 c.append_segments-answer.ensures.ok c.append_segments-answer.ensures.to_the_end
    (c.append_segments-answer.ensures.exact reliable) (c.in_err-close_value.ensures.exact reliable)))

pub segments-smaller : goal.segments-smaller
segments-smaller g t c =
    let primitive = sym c.is_constructed.ensures ∙ c.if-is_constructed.false in
    let read = octets_appended _ _ _ _ c.in_ok-header.header c.length-else-is_constructed.result c.in_ok-header.ensures.ok primitive c.length-else-is_constructed.ensures 0 (g.met.R.Reader.sound_state c.segment_header.new.reader) c.in_ok-append_octets.ensures.ok in
    let same = same_trans c.segment_header.ensures.same c.append_octets.ensures.same in
    omega (arith, read.forward, same.end, same.within)

pub segments-preserved : goal.segments-preserved
segments-preserved g t c =
    let h = c.segments.invariant in
    let primitive = sym c.is_constructed.ensures ∙ c.if-is_constructed.false in
    let read = octets_appended _ _ _ _ c.in_ok-header.header c.length-else-is_constructed.result c.in_ok-header.ensures.ok primitive c.length-else-is_constructed.ensures _ (g.met.R.Reader.sound_state c.segment_header.new.reader) c.in_ok-append_octets.ensures.ok in
    record { same = same_trans h.same (same_trans c.segment_header.ensures.same c.append_octets.ensures.same); so_far = appends_after h.same h.so_far read.appends }

pub returns-in_err-append_octets-clause-exact : goal.returns-in_err-append_octets-clause-exact
returns-in_err-append_octets-clause-exact g t c =
    let p = err_from_is_err_and c.from_residual-in_err-append_octets.result c.from_residual-in_err-append_octets.ensures.1 in
    rw (p.1, p.2) (λ reliable. segments_refuse c.segments.invariant.so_far (g.met.R.Reader.sound_state c.segments.reader)
    (λ e. absurd (let no = c.is_finished.ensures.1 e in let f = c.segments-test.true in let w : false ≡ true = search rules in cc))
    (octets_refused _ _ _ _ c.in_ok-header.header c.length-else-is_constructed.result c.in_ok-header.ensures.ok (sym c.is_constructed.ensures ∙ c.if-is_constructed.false) c.length-else-is_constructed.ensures
    (c.in_err-append_octets.ensures.exact reliable)))
