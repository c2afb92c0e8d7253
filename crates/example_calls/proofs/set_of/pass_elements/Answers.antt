use Rattle.std.proofs.lemmas.Result.{err_from_is_err_and}
use Rattle.der.specs.Prelude.{slice_state}
use Rattle.der.proofs.StateLemmas.{same_trans}
use Rattle.der.specs.BorrowedOctets.{borrowed_octets}
use Rattle.example_calls.proofs.SetReadLemmas.{slice_sound, passed_next, passed_none, passed_all, unfinished_at, first_refused, next_refused}
use Rattle.example_calls.proofs.set_of.pass_elements.Goals as goal

pub returns-then-is_finished-clause-passes : goal.returns-then-is_finished-clause-passes
returns-then-is_finished-clause-passes c = passed_none (slice_state c.args.reader.now) (c.is_finished.ensures.0 c.if-is_finished.true)

pub returns-in_err-previous-clause-passes : goal.returns-in_err-previous-clause-passes
returns-in_err-previous-clause-passes c =
    let p = err_from_is_err_and c.from_residual.result c.from_residual.ensures.1 in
    let s = slice_state c.args.reader.now in
    let unfinished = unfinished_at s c.if-is_finished.false c.is_finished.ensures.1 in
    rw (p.1)
    (record {
      ok = tt;
      exact = λ strings are. absurd (first_refused s strings c.next_element.result _ c.in_err-previous.was (slice_sound c.args.reader.now) unfinished are c.next_element.ensures.complete);
    })

pub returns-in_err-previous-2-clause-passes : goal.returns-in_err-previous-2-clause-passes
returns-in_err-previous-2-clause-passes c =
    let p = err_from_is_err_and c.from_residual-in_err-previous-2.result c.from_residual-in_err-previous-2.ensures.1 in
    let t = slice_state c.loop-previous.reader in
    let unfinished = unfinished_at t c.loop-previous-test.true c.is_finished-in-loop-previous.ensures.1 in
    rw (p.1, p.2)
    (record {
      ok = tt;
      exact = λ strings are.
          next_refused (borrowed_octets c.loop-previous.previous) strings c.next_ascending.result _ c.in_err-previous-2.was (slice_sound c.loop-previous.reader) unfinished c.loop-previous.invariant.1 are c.next_ascending.ensures.exact;
    })

pub loop-previous-preserved : goal.loop-previous-preserved
loop-previous-preserved c = (same_trans c.loop-previous.invariant.0 c.next_ascending.ensures.same, passed_next _ _ c.loop-previous.invariant.1 c.in_ok-previous-2.ensures.ok.0 c.in_ok-previous-2.ensures.ok.1)

pub returns-clause-passes : goal.returns-clause-passes
returns-clause-passes c = passed_all (borrowed_octets c.loop-previous.previous) c.loop-previous.invariant.1 (c.is_finished-in-loop-previous.ensures.0 c.loop-previous-test.false)
