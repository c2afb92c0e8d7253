use Rattle.std.proofs.Common.{arith, ◌∙◌}
use Rattle.std.proofs.lemmas.Result.{err_from_is_err_and}
use Rattle.der_core.proofs.StateLemmas.{byte_read, byte_refused, cut_refused, failed_on}
use Rattle.der_core.proofs.TagReadLemmas.{so_far_next, number_found, number_ends, refused_first, refused_few, refused_many}
use Rattle.der_core.proofs.identifier.decode_long_number.Goals as goal

pub returns-in_err-octet-clause-exact : goal.returns-in_err-octet-clause-exact
returns-in_err-octet-clause-exact g c =
    let p = err_from_is_err_and c.from_residual.result c.from_residual.ensures.1 in
    rw (p.1, p.2) (λ reliable at first here working.
    let so_far = c.octets.invariant in
    let refused = byte_refused (g.met.R.Reader.sound_state c.octets.reader) (c.in_err-octet.ensures.exact reliable) in
    number_ends so_far (cut_refused (failed_on so_far.1 ∙ working) refused) at first here working)

pub returns-then-digit-eq0-clause-exact : goal.returns-then-digit-eq0-clause-exact
returns-then-digit-eq0-clause-exact g c reliable =
    refused_first c.octets.invariant (byte_read c.in_ok-octet.ensures.exact) c.if-number-eq0.true c.if-digit-eq0.true c.error.ensures.at_position c.error.ensures.failed

pub returns-then-next-lt31-clause-exact : goal.returns-then-next-lt31-clause-exact
returns-then-next-lt31-clause-exact g c reliable =
    refused_few c.octets.invariant (byte_read c.in_ok-octet.ensures.exact) c.if-octet-lt128.true c.if-next-lt31.true c.error-then-next-lt31.ensures.at_position c.error-then-next-lt31.ensures.failed

pub returns-then-octet-lt128-clause-ok : goal.returns-then-octet-lt128-clause-ok
returns-then-octet-lt128-clause-ok g c = number_found c.octets.invariant (byte_read c.in_ok-octet.ensures.exact) c.if-octet-lt128.true c.if-next-lt31.false

pub returns-then-next-clause-exact : goal.returns-then-next-clause-exact
returns-then-next-clause-exact g c reliable =
    refused_many c.octets.invariant (byte_read c.in_ok-octet.ensures.exact) c.if-octet-lt128.false (omega arith) (omega arith) c.error-then-next.ensures.at_position c.error-then-next.ensures.failed

pub octets-preserved : goal.octets-preserved
octets-preserved g c = so_far_next c.octets.invariant (byte_read c.in_ok-octet.ensures.exact) c.if-octet-lt128.false (omega arith) c.else-number-eq0.either (omega arith)
