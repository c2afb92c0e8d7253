use Rattle.std.proofs.Common.{◌+◌, ◌-◌, sym, ap, subst, length, add-zero, ◌≡◌, ◌∙◌, arith}
use Rattle.std.proofs.lemmas.Result.{err_from_is_err_and}
use Rattle.der_base.specs.Length.{number, indefinite_length}
use Rattle.der_base.specs.ScanGrammar.{TokensNext}
use Rattle.der_core.specs.Walk.{walked_state, walk_state}
use Rattle.der_core.proofs.ScanReadLemmas.{Reached, reached_none, reached_passes, reached_opens, reached_ends, reached_last, reached_parts, reached_refused, reached_turns, part_progress}
use Rattle.der_core.proofs.StateLemmas.{same_trans}
use Rattle.der_core.proofs.DecodeLemmas.{decoded_ok, decoded_err}
use Rattle.der_core.proofs.WalkLemmas.{walk_sound, walked_sound, walked_rest, reads_same}
use Rattle.der_core.proofs.length.indefinite.walk.Walk.scan.Goals as goal

pub turns-init : goal.turns-init
turns-init g c =
    let octets = c.args.octets.now in
    let start = number c.args.start in
    let a = walked_state octets start 0 in
    let here : walk_state c.new-walk.result ≡ a = c.new-walk.ensures ∙ ap (λ n. walked_state octets n 0) c.from-start.ensures in
    record {
      low = omega arith;
      high = omega arith;
      parts = 0;
      reached = subst (λ s. Reached a s 1 0) (sym here) (reached_none a (walked_sound octets start 0 (omega arith) c.requires));
      counted = sym (add-zero c.args.turns.now);
    }

pub returns-in_err-part-clause-scans : goal.returns-in_err-part-clause-scans
returns-in_err-part-clause-scans g c =
    let p = err_from_is_err_and c.from_residual.result c.from_residual.ensures.1 in
    let v = c.turns.invariant in
    let (t, same, refused) = c.in_err-part.ensures.exact in
    rw (p.1, p.2) (t, decoded_err (same_trans v.reached.same same) (λ reliable. reached_refused v.reached refused))

pub returns-in_err-part-clause-turned : goal.returns-in_err-part-clause-turned
returns-in_err-part-clause-turned g c =
    let p = err_from_is_err_and c.from_residual.result c.from_residual.ensures.1 in
    let v = c.turns.invariant in
    let all = ap length (walked_rest c.args.octets.now (number c.args.start) 0) in
    rw p.1 (omega (arith, v.counted, c.tick.ensures), omega (arith, v.counted, c.tick.ensures, reached_turns v.reached, all))

pub returns-then-level-eq0-clause-scans : goal.returns-then-level-eq0-clause-scans
returns-then-level-eq0-clause-scans g c =
    let v = c.turns.invariant in
    let walk = c.next_part.new.self in
    let last = rw c.in-Ends.is at c.in_ok-part.ensures.ok in
    let same = reads_same (walk_sound walk) last.reads in
    let count : (walk_state walk).position - (walked_state c.args.octets.now (number c.args.start) 0).position ≡ c.position.result - c.from-start.result = omega (arith, c.position.ensures, c.from-start.ensures) in (
      walk_state walk,
      decoded_ok (same_trans v.reached.same same)
          (reached_last v.reached (omega (arith, v.low, c.if-level-eq0.true)) last c.new_indefinite.result (c.new_indefinite.ensures ∙ ap indefinite_length (omega (arith, count)))),
    )

pub returns-then-level-eq0-clause-turned : goal.returns-then-level-eq0-clause-turned
returns-then-level-eq0-clause-turned g c =
    let v = c.turns.invariant in
    let last = rw c.in-Ends.is at c.in_ok-part.ensures.ok in
    let all = walked_rest c.args.octets.now (number c.args.start) 0 in
    (v.parts + 1, subst (TokensNext (v.parts + 1)) all (reached_parts v.reached (omega (arith, v.low, c.if-level-eq0.true)) last), omega (arith, v.counted, c.tick.ensures))

pub turns-preserved-else-level-eq0 : goal.turns-preserved-else-level-eq0
turns-preserved-else-level-eq0 g c =
    let v = c.turns.invariant in
    let ends = rw c.in-Ends.is at c.in_ok-part.ensures.ok in
    record {
      low = omega (arith, v.low, c.if-level-eq0.false);
      high = omega (arith, v.high);
      parts = v.parts + 1;
      reached = reached_ends c.turns.level (omega (arith, v.low, c.if-level-eq0.false)) v.reached ends (reads_same (walk_sound c.next_part.new.self) ends.reads);
      counted = omega (arith, v.counted, c.tick.ensures);
    }

pub turns-smaller-in-Passes : goal.turns-smaller-in-Passes
turns-smaller-in-Passes g c = part_progress c.turns.level c.in_ok-part.part (walk_sound c.next_part.new.self) c.in_ok-part.ensures.ok

pub turns-preserved-in-Passes : goal.turns-preserved-in-Passes
turns-preserved-in-Passes g c =
    let v = c.turns.invariant in
    let passes = rw c.in-Passes.is at c.in_ok-part.ensures.ok in
    record {
      low = v.low;
      high = v.high;
      parts = v.parts + 1;
      reached = reached_passes v.reached passes (reads_same (walk_sound c.next_part.new.self) passes.reads);
      counted = omega (arith, v.counted, c.tick.ensures);
    }

pub turns-preserved : goal.turns-preserved
turns-preserved g c =
    let v = c.turns.invariant in
    let opens = rw c.in-Opens.is at c.in_ok-part.ensures.ok in
    let opened = reached_opens v.reached opens (reads_same (walk_sound c.next_part.new.self) opens.reads) in
    record {
      low = omega (arith, v.low);
      high = omega (arith, opened.1);
      parts = v.parts + 1;
      reached = opened.0;
      counted = omega (arith, v.counted, c.tick.ensures);
    }
