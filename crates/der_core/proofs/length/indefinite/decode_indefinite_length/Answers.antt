use Rattle.std.proofs.Common.{◌+◌, ◌-◌, sym, ap, add-zero, ◌∙◌, arith}
use Rattle.std.proofs.lemmas.Result.{err_from_is_err_and}
use Rattle.der_base.specs.Length.{number, indefinite_length}
use Rattle.der_core.proofs.ScanReadLemmas.{reached_none, reached_passes, reached_opens, reached_ends, reached_last, reached_parts, reached_refused, reached_turns, part_progress}
use Rattle.der_core.proofs.StateLemmas.{same_trans}
use Rattle.der_core.proofs.DecodeLemmas.{decoded_ok, decoded_err}
use Rattle.der_core.proofs.length.indefinite.decode_indefinite_length.Goals as goal

pub turns-init : goal.turns-init
turns-init g c = record { low = omega arith; high = omega arith; parts = 0; reached = reached_none _ (g.met.R.Reader.sound_state c.args.reader.now); counted = sym (add-zero c.args.turns.now) }

pub returns-in_err-part-clause-scans : goal.returns-in_err-part-clause-scans
returns-in_err-part-clause-scans g c =
    let p = err_from_is_err_and c.from_residual.result c.from_residual.ensures.1 in
    let v = c.turns.invariant in
    rw (p.1, p.2) (decoded_err (same_trans v.reached.same c.in_err-part.ensures.same) (λ reliable. reached_refused v.reached (c.in_err-part.ensures.exact reliable)))

pub returns-in_err-part-clause-turned : goal.returns-in_err-part-clause-turned
returns-in_err-part-clause-turned g c =
    let p = err_from_is_err_and c.from_residual.result c.from_residual.ensures.1 in
    let v = c.turns.invariant in
    rw p.1 (omega (arith, v.counted, c.tick.ensures), omega (arith, v.counted, c.tick.ensures, reached_turns v.reached))

pub returns-then-level-eq0-clause-scans : goal.returns-then-level-eq0-clause-scans
returns-then-level-eq0-clause-scans g c =
    let v = c.turns.invariant in
    let last = rw c.in-Ends.is at c.in_ok-part.ensures.ok in
    decoded_ok (same_trans v.reached.same c.in_ok-part.ensures.same)
    (reached_last v.reached (omega (arith, v.low, c.if-level-eq0.true)) last c.new_indefinite.result
    (c.new_indefinite.ensures ∙ ap indefinite_length (c.from.ensures ∙ ap number c.saturating_sub-count.ensures ∙ ap (λ l. number l - number c.position-start.result) c.position.ensures
    ∙ ap (λ l. (g.R.Reader.state c.next_part.new.reader).position - number l) c.position-start.ensures)))

pub returns-then-level-eq0-clause-turned : goal.returns-then-level-eq0-clause-turned
returns-then-level-eq0-clause-turned g c =
    let v = c.turns.invariant in
    let last = rw c.in-Ends.is at c.in_ok-part.ensures.ok in
    (v.parts + 1, reached_parts v.reached (omega (arith, v.low, c.if-level-eq0.true)) last, omega (arith, v.counted, c.tick.ensures))

pub turns-preserved-else-level-eq0 : goal.turns-preserved-else-level-eq0
turns-preserved-else-level-eq0 g c =
    let v = c.turns.invariant in
    record {
      low = omega (arith, v.low, c.if-level-eq0.false);
      high = omega (arith, v.high);
      parts = v.parts + 1;
      reached = reached_ends c.turns.level (omega (arith, v.low, c.if-level-eq0.false)) v.reached (rw c.in-Ends.is at c.in_ok-part.ensures.ok) c.in_ok-part.ensures.same;
      counted = omega (arith, v.counted, c.tick.ensures);
    }

pub turns-smaller-in-Passes : goal.turns-smaller-in-Passes
turns-smaller-in-Passes g c = part_progress c.turns.level c.in_ok-part.part (g.met.R.Reader.sound_state c.next_part.new.reader) c.in_ok-part.ensures.ok

pub turns-preserved-in-Passes : goal.turns-preserved-in-Passes
turns-preserved-in-Passes g c =
    let v = c.turns.invariant in
    record {
      low = v.low;
      high = v.high;
      parts = v.parts + 1;
      reached = reached_passes v.reached (rw c.in-Passes.is at c.in_ok-part.ensures.ok) c.in_ok-part.ensures.same;
      counted = omega (arith, v.counted, c.tick.ensures);
    }

pub turns-preserved : goal.turns-preserved
turns-preserved g c =
    let v = c.turns.invariant in
    let opened = reached_opens v.reached (rw c.in-Opens.is at c.in_ok-part.ensures.ok) c.in_ok-part.ensures.same in
    record {
      low = omega (arith, v.low);
      high = omega (arith, opened.1);
      parts = v.parts + 1;
      reached = opened.0;
      counted = omega (arith, v.counted, c.tick.ensures);
    }
