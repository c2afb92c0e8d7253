use Rattle.std.proofs.Common.{[], ◌∷◌, if◌then◌else◌, sym, ◌∙◌}
use Rattle.der_c_values.specs.WriteCalls.{no_value, of_value}
use Rattle.der_c_x509.proofs.AssemblyLemmas.{algorithm_joined, written_as}
use Rattle.der_c_x509.proofs.assembly.signed.der_write_algorithm.Goals as goal

pub returns-then-not-matches_grammar-clause-writes : goal.returns-then-not-matches_grammar-clause-writes
returns-then-not-matches_grammar-clause-writes c =
    no_value (sym c.matches_grammar.ensures ∙ c.if-not-matches_grammar.true) c.refuse_no_value.ensures.writes

pub returns-clause-writes : goal.returns-clause-writes
returns-clause-writes c =
    of_value (sym c.matches_grammar.ensures ∙ c.if-not-matches_grammar.false)
    (written_as c.der_write_parts.ensures.writes
    (rw (c.span.ensures, c.span-2.ensures, c.span-3.ensures, c.parameters_of.ensures)
    (algorithm_joined c.args.identifier.now (if c.args.null_parameters then 5 ∷ 0 ∷ [] else []) c.in-Some.id_length.octets.now c.in-Some.ensures.some)))
