use Rattle.std.proofs.Common.{arith, refl}
use Rattle.std.proofs.lemmas.Result.{err_from_is_err_and}
use Rattle.der_core.specs.AfterFirstOctet.{RefusesNumber}
use Rattle.der_core.proofs.StateLemmas.{ByteRefused, reads_on, cut_refused}
use Rattle.der_core.proofs.TagReadLemmas.{so_far_next, number_found, number_ends, refused_first, refused_few, refused_many}
use Rattle.der_core.proofs.WalkLemmas.{missing_octet_error, error_after_read, error_at_walk}
use Rattle.der_core.proofs.length.indefinite.walk.Walk.read_long_number.Goals as goal

pub returns-in_err-octet-clause-exact : goal.returns-in_err-octet-clause-exact
returns-in_err-octet-clause-exact c =
    let p = err_from_is_err_and c.from_residual.result c.from_residual.ensures.1 in
    let so_far = c.octets.invariant in
    let cut = missing_octet_error c.octets.self c.in_err-octet.ensures.none c.in_err-octet.ensures.exact in
    rw (p.1, p.2) (error_after_read ByteRefused RefusesNumber c.octets.self so_far.1 cut (λ t refused. number_ends so_far (cut_refused refl refused)))

pub returns-then-digit-eq0-clause-exact : goal.returns-then-digit-eq0-clause-exact
returns-then-digit-eq0-clause-exact c =
    let so_far = c.octets.invariant in
    let read = c.in_ok-octet.ensures.ok in
    error_at_walk RefusesNumber c.read_byte.new.self (reads_on so_far.1 read) (refused_first so_far read c.if-number-eq0.true c.if-digit-eq0.true c.error.ensures refl)

pub returns-then-next-lt31-clause-exact : goal.returns-then-next-lt31-clause-exact
returns-then-next-lt31-clause-exact c =
    let so_far = c.octets.invariant in
    let read = c.in_ok-octet.ensures.ok in
    error_at_walk RefusesNumber c.read_byte.new.self (reads_on so_far.1 read) (refused_few so_far read c.if-octet-lt128.true c.if-next-lt31.true c.error-then-next-lt31.ensures refl)

pub returns-then-octet-lt128-clause-ok : goal.returns-then-octet-lt128-clause-ok
returns-then-octet-lt128-clause-ok c = number_found c.octets.invariant c.in_ok-octet.ensures.ok c.if-octet-lt128.true c.if-next-lt31.false

pub returns-then-next-clause-exact : goal.returns-then-next-clause-exact
returns-then-next-clause-exact c =
    let so_far = c.octets.invariant in
    let read = c.in_ok-octet.ensures.ok in
    error_at_walk RefusesNumber c.read_byte.new.self (reads_on so_far.1 read) (refused_many so_far read c.if-octet-lt128.false (omega arith) (omega arith) c.error-then-next.ensures refl)

pub octets-preserved : goal.octets-preserved
octets-preserved c = so_far_next c.octets.invariant c.in_ok-octet.ensures.ok c.if-octet-lt128.false (omega arith) c.else-number-eq0.either (omega arith)
