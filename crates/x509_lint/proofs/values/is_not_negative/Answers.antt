use Rattle.std.proofs.Common.{◌≡◌, false, not}
use Rattle.der.specs.Prelude.{Integer}
use Rattle.der_asn1.specs.Integer.{is_negative}
use Rattle.x509_lint.proofs.ElementLemmas.{not_exactly, of_all_contents}
use Rattle.x509_lint.proofs.values.is_not_negative.Goals as goal

pub returns-in-Some : goal.returns-in-Some
returns-in-Some c =
    of_all_contents (λ x. is_negative x ≡ false) c.args.octets.now Integer c.in-Some.contents.now (not c.has_minus_sign.result) c.in-Some.ensures.some
    (not_exactly c.has_minus_sign.result (is_negative c.in-Some.contents.now) c.has_minus_sign.ensures)
