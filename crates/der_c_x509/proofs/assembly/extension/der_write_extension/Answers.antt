use Rattle.std.proofs.Common.{[], ◌∷◌, if◌then◌else◌, sym, ◌∙◌}
use Rattle.der_c_values.specs.WriteCalls.{no_value, of_value}
use Rattle.der_c_x509.proofs.AssemblyLemmas.{extension_joined, written_as}
use Rattle.der_c_x509.proofs.assembly.extension.der_write_extension.Goals as goal

pub returns-then-not-matches_grammar-clause-writes : goal.returns-then-not-matches_grammar-clause-writes
returns-then-not-matches_grammar-clause-writes c =
    no_value (sym c.matches_grammar.ensures ∙ c.if-not-matches_grammar.true) c.refuse_no_value.ensures.writes

pub returns-clause-writes : goal.returns-clause-writes
returns-clause-writes c =
    of_value (sym c.matches_grammar.ensures ∙ c.if-not-matches_grammar.false)
    (written_as c.der_write_parts.ensures.writes
    (rw (c.span.ensures, c.span-2.ensures, c.span-3.ensures, c.span-4.ensures, c.span-5.ensures, c.critical_octets.ensures)
    (extension_joined c.args.identifier.now (if c.args.critical then 1 ∷ 1 ∷ 255 ∷ [] else []) c.args.value.now c.in-Some.id_length.octets.now c.in-Some-length_span.value_length.octets.now c.in-Some.ensures.some c.in-Some-length_span.ensures.some)))
