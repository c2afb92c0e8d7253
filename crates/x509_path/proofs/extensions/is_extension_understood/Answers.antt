use Rattle.x509_path.proofs.ExtensionLemmas.{if_processed}
use Rattle.x509_path.proofs.extensions.is_extension_understood.Goals as goal

pub returns-then-is_processed : goal.returns-then-is_processed
returns-then-is_processed c = if_processed c.args.judges_policies _ _ _ _ _ c.octets-id.ensures.value (c.is_processed.ensures.0 c.if-is_processed.true) c.is_formed_and_interpreted.ensures
