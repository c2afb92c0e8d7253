use Rattle.std.proofs.Common.{refl, sym, subst, ◌∙◌}
use Rattle.der.specs.Prelude.{Set, header_octets, number, Reads, slice_state}
use Rattle.der.proofs.DecodeLemmas.{not_refused}
use Rattle.der.proofs.HeaderReadLemmas.{decoded_header_grammar}
use Rattle.der.proofs.TagAssertedLemmas.{tag_asserted, another_tag}
use Rattle.example_calls.proofs.SetReadLemmas.{slice_sound, set_read, next_set_header, set_alone}
use Rattle.example_calls.proofs.set_of.set_header.Goals as goal

pub returns-in_err-header-clause-complete : goal.returns-in_err-header-clause-complete
returns-in_err-header-clause-complete c n more small next =
    let reader = c.args.reader.now in
    absurd (not_refused decoded_header_grammar (c.in_err-header.ensures.refused refl) c.requires.working (next_set_header (slice_state reader) n more (slice_sound reader) c.requires.der small next))

pub returns-in_err-assert_eq-clause-complete : goal.returns-in_err-assert_eq-clause-complete
returns-in_err-assert_eq-clause-complete c n more small next =
    let another = another_tag c.tag.result Set c.in_err-assert_eq.field-0.0 c.assert_eq.result c.in_err-assert_eq.was c.assert_eq.ensures.expected_tag in
    absurd (another (c.tag.ensures ∙ set_alone c.in_ok-header.header n more c.requires.der c.in_ok-header.ensures.ok next))

pub returns-clause-ok : goal.returns-clause-ok
returns-clause-ok c =
    let header = c.in_ok-header.header in
    let tagged = sym c.tag.ensures ∙ tag_asserted c.tag.result Set c.in_ok-assert_eq.field-0 c.assert_eq.result c.in_ok-assert_eq.was c.assert_eq.ensures.other_tag in
    subst (λ l. Reads (slice_state c.args.reader.now) (slice_state c.decode_header.new.reader) (header_octets Set (number l))) (sym c.length.ensures) (set_read header c.requires.der c.in_ok-header.ensures.ok tagged)
