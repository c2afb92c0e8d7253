use Rattle.schema_rules.proofs.LastLemmas.{last_is_below}
use Rattle.schema_rules.proofs.small.ends_whole.Goals as goal

pub returns-in-len1-up : goal.returns-in-len1-up
returns-in-len1-up c = last_is_below c.args.contents.now c.in-len1-up.len_at_least
