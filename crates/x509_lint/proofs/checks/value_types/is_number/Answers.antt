use Rattle.std.proofs.Common.{◌≡◌, true}
use Rattle.der.specs.Prelude.{Integer}
use Rattle.der_asn1.specs.Forms.{integer_form}
use Rattle.x509_lint.proofs.ElementLemmas.{of_some_contents, some_exactly}
use Rattle.x509_lint.proofs.checks.value_types.is_number.Goals as goal

pub returns-in-Some : goal.returns-in-Some
returns-in-Some c =
    of_some_contents (λ x. integer_form x ≡ true) c.args.value.now Integer c.in-Some.contents.now c.is_some.result c.in-Some.ensures.some
    (some_exactly c.new.result c.is_some.result c.is_some.ensures c.new.ensures.some)
