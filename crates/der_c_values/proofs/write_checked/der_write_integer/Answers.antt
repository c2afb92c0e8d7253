use Rattle.std.proofs.Common.{sym, ◌∙◌}
use Rattle.der_c_values.specs.WriteCalls.{no_value, of_value}
use Rattle.der_c_values.proofs.write_checked.der_write_integer.Goals as goal

pub returns-clause-writes : goal.returns-clause-writes
returns-clause-writes c = of_value (sym c.matches_grammar.ensures ∙ c.if-not-matches_grammar.false) c.der_write_element.ensures.writes

pub returns-then-not-matches_grammar-clause-writes : goal.returns-then-not-matches_grammar-clause-writes
returns-then-not-matches_grammar-clause-writes c = no_value (sym c.matches_grammar.ensures ∙ c.if-not-matches_grammar.true) c.refuse_no_value.ensures.writes
