use Rattle.std.proofs.Common.{refl}
use Rattle.schema_rules.proofs.RuleLemmas.{is_allowed}
use Rattle.schema_rules.specs.Rules.{named_bits_rules}
use Rattle.schema_rules.proofs.broken.named_bits_rule.Goals as goal

pub returns-clause-allowed : goal.returns-clause-allowed
returns-clause-allowed c = is_allowed named_bits_rules c.named_bits_rules.result.now c.named_bits_rules.ensures refl c.first_broken.result c.args.contents.now c.first_broken.ensures.none c.first_broken.ensures.found
