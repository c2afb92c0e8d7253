use Rattle.std.proofs.Common.{◌≡◌, ◌&&◌, false, sym, ap, ◌∙◌}
use Rattle.der_asn1.specs.Forms.{oid_form}
use Rattle.der_c_values.specs.StringTypes.{string_form}
use Rattle.der_c_values.specs.WriteCalls.{no_value, of_value}
use Rattle.der_c_x509.specs.Assembly.{string_tag}
use Rattle.der_c_x509.proofs.AssemblyLemmas.{attribute_joined, both_hold, second_fails, string_octet, written_as}
use Rattle.der_c_x509.proofs.assembly.attribute.der_write_name_attribute.Goals.{then-not-matches_grammar-via-then-not-matches_grammar, then-not-matches_grammar-via-else-not-matches_grammar+then-not-has_form}
use Rattle.der_c_x509.proofs.assembly.attribute.der_write_name_attribute.Goals as goal

pub returns-then-not-matches_grammar-clause-writes : goal.returns-then-not-matches_grammar-clause-writes
returns-then-not-matches_grammar-clause-writes c =
    let is_none : (oid_form c.args.identifier.now && string_form c.args.string_type c.args.text.now) ≡ false = elim c.then-not-matches_grammar.branch [ then-not-matches_grammar-via-then-not-matches_grammar w ↦ ap (λ x. x && string_form c.args.string_type c.args.text.now) (sym c.matches_grammar.ensures ∙ w.if-not-matches_grammar.true) | then-not-matches_grammar-via-else-not-matches_grammar+then-not-has_form w ↦ second_fails (oid_form c.args.identifier.now) (sym w.has_form.ensures ∙ w.if-not-has_form.true) ] in
    no_value is_none c.refuse_no_value.ensures.writes

pub returns-clause-writes : goal.returns-clause-writes
returns-clause-writes c =
    let form = sym c.has_form.ensures ∙ c.if-not-has_form.false in
    of_value (both_hold (sym c.matches_grammar.ensures ∙ c.if-not-matches_grammar.false) form)
    (written_as c.der_write_parts.ensures.writes
    (rw (c.span.ensures, c.span-2.ensures, c.span-3.ensures, c.span-4.ensures, c.span-5.ensures)
    (attribute_joined (string_tag c.args.string_type) c.args.string_type c.args.identifier.now c.args.text.now
    c.in-Some.id_length.octets.now c.in-Some-length_span.text_length.octets.now c.in-Some-length_span-2.length.octets.now
    (string_octet c.args.string_type c.args.text.now form) c.in-Some.ensures.some c.in-Some-length_span.ensures.some c.in-Some-length_span-2.ensures.some)))
