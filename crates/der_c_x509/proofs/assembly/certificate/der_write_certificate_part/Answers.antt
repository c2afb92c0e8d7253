use Rattle.std.proofs.Common.{refl, sym, ◌∙◌}
use Rattle.std.proofs.lemmas.List.{append-nil}
use Rattle.der_c_core.specs.WriterCalls.{too_long}
use Rattle.der_c_values.specs.WriteCalls.{no_value, of_value}
use Rattle.der_c_x509.proofs.AssemblyLemmas.{long_certificate, serial_joined, written_as}
use Rattle.der_c_x509.proofs.assembly.certificate.der_write_certificate_part.Goals as goal

pub returns-then-not-matches_grammar-clause-writes : goal.returns-then-not-matches_grammar-clause-writes
returns-then-not-matches_grammar-clause-writes c =
    no_value (sym c.matches_grammar.ensures ∙ c.if-not-matches_grammar.true) c.refuse_no_value.ensures.writes

pub returns-in_default-extensions_header-clause-writes : goal.returns-in_default-extensions_header-clause-writes
returns-in_default-extensions_header-clause-writes c =
    of_value (sym c.matches_grammar.ensures ∙ c.if-not-matches_grammar.false)
    (too_long (long_certificate c.args.parts.now (c.in_default-extensions_header.ensures.none refl)) c.refuse_length-in_default-extensions_header.ensures.refuses)

pub returns-clause-writes : goal.returns-clause-writes
returns-clause-writes c =
    let p = c.args.parts.now in
    of_value (sym c.matches_grammar.ensures ∙ c.if-not-matches_grammar.false)
    (written_as c.der_write_parts.ensures.writes
    (rw (c.span.ensures, append-nil p.extensions.octets.now, c.in-Some-extensions_header.ensures.some p.extensions.octets.now refl)
    (serial_joined p.serial_number.octets.now _ c.in-Some.number_length.octets.now c.in-Some.ensures.some)))
