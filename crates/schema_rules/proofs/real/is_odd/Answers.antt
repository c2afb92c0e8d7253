use Rattle.schema_rules.proofs.LastLemmas.{last_is_odd}
use Rattle.schema_rules.proofs.real.is_odd.Goals as goal

pub returns-in-len1-up : goal.returns-in-len1-up
returns-in-len1-up c = last_is_odd c.args.octets.now c.in-len1-up.len_at_least
