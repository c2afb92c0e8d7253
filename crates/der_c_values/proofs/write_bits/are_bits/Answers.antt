use Rattle.std.proofs.Common.{◌∙◌}
use Rattle.der_c_values.proofs.WriteLemmas.{last_bits}
use Rattle.der_c_values.proofs.write_bits.are_bits.Goals as goal

pub returns-in-len1-up : goal.returns-in-len1-up
returns-in-len1-up c = c.matches_grammar-in-len1-up.ensures ∙ last_bits c.args.unused c.args.octets.now c.in-len1-up.len_at_least
