use Rattle.std.proofs.Common.{◌∙◌}
use Rattle.der_c_values.proofs.CharacterLemmas.{first_spelled}
use Rattle.der_c_values.proofs.character.first_of_text.Goals as goal

pub returns-in-Ok-clause-some : goal.returns-in-Ok-clause-some
returns-in-Ok-clause-some c = first_spelled _ c.next.result c.chars.result.rest.now c.args.octets.now c.next.new.self.rest.now (c.chars.ensures.rest ∙ c.in-Ok.ensures.cases.0) c.next.ensures.steps.0
