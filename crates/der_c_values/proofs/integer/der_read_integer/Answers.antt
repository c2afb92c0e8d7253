use Rattle.std.proofs.Common.{refl, rules, sym, ◌∙◌}
use Rattle.der_c_values.specs.ValueCalls.{no_value, value}
use Rattle.der_c_values.proofs.integer.der_read_integer.Goals as goal

pub returns-then-not-matches_grammar-clause-reads : goal.returns-then-not-matches_grammar-clause-reads
returns-then-not-matches_grammar-clause-reads c =
    no_value c.in-Ok.octets.now _ c.in-Ok.ensures.ok (search rules) c.refuse_value.ensures.reported c.refuse_value.ensures.stopped refl

pub returns-clause-reads : goal.returns-clause-reads
returns-clause-reads c =
    value c.in-Ok.octets.now c.in-Ok.ensures.ok (sym c.matches_grammar.ensures ∙ c.if-not-matches_grammar.false) refl refl
