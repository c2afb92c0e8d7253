use Rattle.std.proofs.Common.{◌≡◌, true, false, inl, sym, ◌∙◌, rules, arith}
use Rattle.std.proofs.lemmas.Result.{err_from_is_err_and}
use Rattle.der_core.proofs.NestedLemmas.{same_closed}
use Rattle.der_core.proofs.StateLemmas.{same_trans, same_here}
use Rattle.der.specs.Joining.{no_segment}
use Rattle.der.proofs.JoiningLemmas.{octets_refused}
use Rattle.der.proofs.NestedSegmentLemmas.{enters_segment, not_entered_segment}
use Rattle.der_segments.proofs.MeasureLemmas.{measures_none, measures_after, measures_as, measures_small, piece_measured, nested_measured, nested_unmeasured, measuring_refused}
use Rattle.der_segments.proofs.RefusalLemmas.{segment_header_refused}
use Rattle.der_segments.proofs.measure.+measure_segments.Goals as goal

pub segments-init : goal.segments-init
segments-init g t c = record { same = same_here _ (g.met.R.Reader.sound_state c.args.reader.now); so_far = measures_none _ }

pub returns-in_err-header-clause-exact : goal.returns-in_err-header-clause-exact
returns-in_err-header-clause-exact g t c =
    let p = err_from_is_err_and c.from_residual.result c.from_residual.ensures.1 in
    rw (p.1, p.2) (λ reliable. measuring_refused c.segments.invariant.so_far (g.met.R.Reader.sound_state c.segments.reader)
    (λ e. absurd (let no = c.is_finished.ensures.1 e in let f = c.segments-test.true in let w : false ≡ true = search rules in cc))
    (no_segment (c.in_err-header.ensures.exact reliable)))

pub returns-in_err-header-clause-no_memory : goal.returns-in_err-header-clause-no_memory
returns-in_err-header-clause-no_memory g t c =
    let p = err_from_is_err_and c.from_residual.result c.from_residual.ensures.1 in
    rw (p.1, p.2) (λ reliable. segment_header_refused (c.in_err-header.ensures.exact reliable))

pub returns-in_err-outer-clause-exact : goal.returns-in_err-outer-clause-exact
returns-in_err-outer-clause-exact g t c =
    let p = err_from_is_err_and c.from_residual-in_err-outer.result c.from_residual-in_err-outer.ensures.1 in
    rw (p.1, p.2) (λ reliable. measuring_refused c.segments.invariant.so_far (g.met.R.Reader.sound_state c.segments.reader)
    (λ e. absurd (let no = c.is_finished.ensures.1 e in let f = c.segments-test.true in let w : false ≡ true = search rules in cc))
    (not_entered_segment c.in_ok-header.ensures.ok c.is_constructed.ensures c.if-is_constructed.true c.length.ensures c.sans_eoc-length.ensures (c.in_err-outer.ensures.exact reliable)))

pub returns-in_err-inner-clause-exact : goal.returns-in_err-inner-clause-exact
returns-in_err-inner-clause-exact g t c =
    let p = err_from_is_err_and c.from_residual-in_err-inner.result c.from_residual-in_err-inner.ensures.1 in
    let entered = enters_segment (g.met.R.Reader.sound_state c.segment_header.new.reader) c.in_ok-header.ensures.ok c.is_constructed.ensures c.if-is_constructed.true c.length.ensures c.sans_eoc-length.ensures c.in_ok-outer.ensures.exact in
    rw (p.1, p.2) (λ reliable. measuring_refused c.segments.invariant.so_far (g.met.R.Reader.sound_state c.segments.reader)
    (λ e. absurd (let no = c.is_finished.ensures.1 e in let f = c.segments-test.true in let w : false ≡ true = search rules in cc))
    (nested_unmeasured _ _ _ _ _ _ _ _ _ entered c.measure_segments-answer.result c.in_err-inner.field-0.0 c.measure_segments-answer.ensures.ok c.measure_segments-answer.ensures.to_the_end
    (c.measure_segments-answer.ensures.exact reliable) (c.in_err-inner.ensures.exact reliable)))

pub overflow_add-count : goal.overflow_add-count
overflow_add-count g t c =
    let entered = enters_segment (g.met.R.Reader.sound_state c.segment_header.new.reader) c.in_ok-header.ensures.ok c.is_constructed.ensures c.if-is_constructed.true c.length.ensures c.sans_eoc-length.ensures c.in_ok-outer.ensures.exact in
    let read = nested_measured _ _ _ _ _ _ _ _ _ entered c.measure_segments-answer.result c.in_ok-inner.inner c.measure_segments-answer.ensures.ok c.measure_segments-answer.ensures.to_the_end (c.in_ok-inner.ensures.exact tt) in
    let small = measures_small (measures_after c.segments.invariant.same c.segments.invariant.so_far read.measures) (g.met.R.Reader.sound_state c.close_value.new.reader) in
    omega (arith, small)

pub segments-smaller-then-is_constructed : goal.segments-smaller-then-is_constructed
segments-smaller-then-is_constructed g t c =
    let entered = enters_segment (g.met.R.Reader.sound_state c.segment_header.new.reader) c.in_ok-header.ensures.ok c.is_constructed.ensures c.if-is_constructed.true c.length.ensures c.sans_eoc-length.ensures c.in_ok-outer.ensures.exact in
    let read = nested_measured _ _ _ _ _ _ _ _ _ entered c.measure_segments-answer.result c.in_ok-inner.inner c.measure_segments-answer.ensures.ok c.measure_segments-answer.ensures.to_the_end (c.in_ok-inner.ensures.exact tt) in
    let same = same_trans c.segment_header.ensures.same (same_closed entered.way c.measure_segments-answer.ensures.same c.close_value.ensures.same) in
    omega (arith, read.forward, same.end, same.within)

pub segments-preserved-then-is_constructed : goal.segments-preserved-then-is_constructed
segments-preserved-then-is_constructed g t c =
    let h = c.segments.invariant in
    let entered = enters_segment (g.met.R.Reader.sound_state c.segment_header.new.reader) c.in_ok-header.ensures.ok c.is_constructed.ensures c.if-is_constructed.true c.length.ensures c.sans_eoc-length.ensures c.in_ok-outer.ensures.exact in
    let read = nested_measured _ _ _ _ _ _ _ _ _ entered c.measure_segments-answer.result c.in_ok-inner.inner c.measure_segments-answer.ensures.ok c.measure_segments-answer.ensures.to_the_end (c.in_ok-inner.ensures.exact tt) in
    let same = same_trans c.segment_header.ensures.same (same_closed entered.way c.measure_segments-answer.ensures.same c.close_value.ensures.same) in
    record { same = same_trans h.same same; so_far = measures_after h.same h.so_far read.measures }

pub returns-in_err-_octets-clause-exact : goal.returns-in_err-_octets-clause-exact
returns-in_err-_octets-clause-exact g t c =
    let p = err_from_is_err_and c.from_residual-in_err-_octets.result c.from_residual-in_err-_octets.ensures.1 in
    rw (p.1, p.2) (λ reliable. measuring_refused c.segments.invariant.so_far (g.met.R.Reader.sound_state c.segments.reader)
    (λ e. absurd (let no = c.is_finished.ensures.1 e in let f = c.segments-test.true in let w : false ≡ true = search rules in cc))
    (octets_refused _ _ _ _ c.in_ok-header.header c.length-length.result c.in_ok-header.ensures.ok (sym c.is_constructed.ensures ∙ c.if-is_constructed.false) c.length-length.ensures
    (λ _. inl (c.in_err-_octets.ensures.exact reliable))))

pub overflow_add-count-else-is_constructed : goal.overflow_add-count-else-is_constructed
overflow_add-count-else-is_constructed g t c =
    let read = piece_measured c.in_ok-header.header c.length-length.result c.in_ok-header.ensures.ok (sym c.is_constructed.ensures ∙ c.if-is_constructed.false) c.length-length.ensures (g.met.R.Reader.sound_state c.segment_header.new.reader) c.in_ok-_octets.ensures.exact in
    let small = measures_small (measures_after c.segments.invariant.same c.segments.invariant.so_far read.measures) (g.met.R.Reader.sound_state c.read_slice.new.self) in
    omega (arith, small, c.from-count.ensures)

pub segments-smaller : goal.segments-smaller
segments-smaller g t c =
    let read = piece_measured c.in_ok-header.header c.length-length.result c.in_ok-header.ensures.ok (sym c.is_constructed.ensures ∙ c.if-is_constructed.false) c.length-length.ensures (g.met.R.Reader.sound_state c.segment_header.new.reader) c.in_ok-_octets.ensures.exact in
    let same = same_trans c.segment_header.ensures.same c.read_slice.ensures.same in
    omega (arith, read.forward, same.end, same.within)

pub segments-preserved : goal.segments-preserved
segments-preserved g t c =
    let h = c.segments.invariant in
    let read = piece_measured c.in_ok-header.header c.length-length.result c.in_ok-header.ensures.ok (sym c.is_constructed.ensures ∙ c.if-is_constructed.false) c.length-length.ensures (g.met.R.Reader.sound_state c.segment_header.new.reader) c.in_ok-_octets.ensures.exact in
    record { same = same_trans h.same (same_trans c.segment_header.ensures.same c.read_slice.ensures.same); so_far = measures_after h.same h.so_far (measures_as c.from-count.ensures read.measures) }
