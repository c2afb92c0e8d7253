use Rattle.std.proofs.Common.{sym}
use Rattle.x509_path.proofs.ExtensionLemmas.{both_true, formed_read, not_both}
use Rattle.x509_path.proofs.extensions.is_formed_and_interpreted.Goals as goal

pub returns-then-is_formed : goal.returns-then-is_formed
returns-then-is_formed c =
    both_true _ _ _ (formed_read _ _ _ _ c.octets-id.ensures.value c.octets-value.ensures.value (c.is_formed.ensures.0 c.if-is_formed.true)) c.is_interpreted.ensures

pub returns-else-is_formed : goal.returns-else-is_formed
returns-else-is_formed c =
    not_both _ _ _ c.if-is_formed.false (λ h. c.is_formed.ensures.1 (formed_read _ _ _ _ (sym c.octets-id.ensures.value) (sym c.octets-value.ensures.value) h))
