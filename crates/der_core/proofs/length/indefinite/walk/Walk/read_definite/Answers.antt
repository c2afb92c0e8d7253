use Rattle.std.proofs.Common.{refl, arith}
use Rattle.std.proofs.lemmas.Result.{err_from_is_err_and}
use Rattle.der_base.specs.declared.error.ErrorKind.TheVariants.{Length as IncorrectLength}
use Rattle.der_core.specs.AfterFirstOctet.{RefusesLongLength}
use Rattle.der_core.specs.Identifier.{tag_of}
use Rattle.der_core.specs.Walk.{walk_state}
use Rattle.der_core.proofs.StateLemmas.{ByteRefused, reads_none, cut_refused}
use Rattle.der_core.proofs.LengthReadLemmas.{digits_next, digits_fit, digits_whole, refused_far, refused_cut, refused_longer, found_long}
use Rattle.der_core.proofs.WalkLemmas.{missing_octet_error, error_after_read, error_at_walk}
use Rattle.der_core.proofs.length.indefinite.walk.Walk.read_definite.Goals as goal

pub returns-then-first-gt132-clause-exact : goal.returns-then-first-gt132-clause-exact
returns-then-first-gt132-clause-exact c =
    let reported = c.error.ensures in
    let kind = c.length_error.ensures in
    let tag = c.refused_tag.ensures in
    error_at_walk (RefusesLongLength (IncorrectLength (tag_of c.args.identifier)) c.args.first) c.args.self.now (reads_none (walk_state c.args.self.now)) (refused_far (omega arith) (cc) refl)

pub returns-in_err-octet-clause-exact : goal.returns-in_err-octet-clause-exact
returns-in_err-octet-clause-exact c =
    let p = err_from_is_err_and c.from_residual.result c.from_residual.ensures.1 in
    let so_far = c.loop-i.invariant in
    let cut = missing_octet_error c.loop-i.self c.in_err-octet.ensures.none c.in_err-octet.ensures.exact in
    rw (p.1, p.2) (error_after_read ByteRefused (RefusesLongLength (IncorrectLength (tag_of c.args.identifier)) c.args.first) c.loop-i.self so_far.reads cut
    (λ t refused at here working. refused_cut so_far (omega arith) (omega arith) (omega arith) (cut_refused refl refused) at here))

pub overflow_mul-value : goal.overflow_mul-value
overflow_mul-value c = omega (arith, digits_fit c.loop-i.invariant (omega arith))

pub overflow_add-value : goal.overflow_add-value
overflow_add-value c = omega (arith, digits_fit c.loop-i.invariant (omega arith))

pub loop-i-preserved : goal.loop-i-preserved
loop-i-preserved c = digits_next c.loop-i.invariant c.in_ok-octet.ensures.ok (omega arith)

pub returns-then-value-least_of-clause-exact : goal.returns-then-value-least_of-clause-exact
returns-then-value-least_of-clause-exact c =
    let reported = c.error-then-value-least_of.ensures in
    let kind = c.length_error-then-value-least_of.ensures in
    let tag = c.refused_tag-then-value-least_of.ensures in
    let so_far = digits_whole c.loop-i.i c.args.first (omega arith) c.loop-i.invariant in
    error_at_walk (RefusesLongLength (IncorrectLength (tag_of c.args.identifier)) c.args.first) c.loop-i.self so_far.reads
    (refused_longer so_far (omega arith) (omega arith) c.least_of.ensures c.if-value-least_of.true (cc) refl)

pub returns-clause-ok : goal.returns-clause-ok
returns-clause-ok c = found_long (digits_whole c.loop-i.i c.args.first (omega arith) c.loop-i.invariant) (omega arith) c.least_of.ensures c.if-value-least_of.false (omega arith)
