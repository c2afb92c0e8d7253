use Rattle.x509_lint.proofs.ElementLemmas.{both_with, both_without}
use Rattle.x509_lint.proofs.checks.value.has_issuer_and_serial.Goals as goal

pub returns-then-has_issuer : goal.returns-then-has_issuer
returns-then-has_issuer c = both_with c.has_serial.result (c.has_issuer.ensures.0 c.if-has_issuer.true) c.has_serial.ensures

pub returns-else-has_issuer : goal.returns-else-has_issuer
returns-else-has_issuer c =
    both_without c.has_serial-else-has_issuer.result (λ h. (let yes = c.has_issuer.ensures.1 h in let wrong = c.if-has_issuer.false in cc)) c.has_serial-else-has_issuer.ensures
