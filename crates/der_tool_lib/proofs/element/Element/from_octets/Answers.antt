use Rattle.std.proofs.Common.{rules, refl, ap, ◌∙◌}
use Rattle.der.specs.Prelude.{number, Der, element_octets, Gives, map_ok, read_slice_outcome, slice_state}
use Rattle.der.proofs.ElementLemmas.{at_contents, value_result_of_type}
use Rattle.der.specs.BytesRef.{reference_octets}
use Rattle.der_tool_lib.specs.Answer.{NoWholeElement}
use Rattle.der_tool_lib.proofs.HeaderLemmas.{refused_header}
use Rattle.der_tool_lib.proofs.WholeElementLemmas.{contents_refused, finish_refused, whole_read}
use Rattle.der_tool_lib.proofs.element.Element.from_octets.Goals as goal

pub returns-in_err-reader-clause-err : goal.returns-in_err-reader-clause-err
returns-in_err-reader-clause-err c = search (rules, NoWholeElement.no_header)

pub returns-in_err-header-clause-err : goal.returns-in_err-header-clause-err
returns-in_err-header-clause-err c =
    let refused = refused_header Der c.args.octets.now (slice_state c.in_ok-reader.reader) (slice_state c.decode_header.new.reader) c.in_ok-reader.ensures.ok (c.in_ok-reader.ensures.fits.0 refl)
    c.in_err-header.field-0.0 (c.in_err-header.ensures.refused refl) in
    search (rules, refused, NoWholeElement.no_header)

pub returns-in_err-octets-clause-err : goal.returns-in_err-octets-clause-err
returns-in_err-octets-clause-err c =
    let refused = contents_refused c.args.octets.now (slice_state c.in_ok-reader.reader) (slice_state c.decode_header.new.reader) (slice_state c.read_value.new.reader) c.in_ok-header.header reference_octets (λ e f reported. reported)
    c.in_ok-reader.ensures.ok (c.in_ok-reader.ensures.fits.0 refl) c.in_ok-header.ensures.ok c.in_err-octets.field-0.0
    (value_result_of_type (λ p a q r. at_contents c.in_ok-header.header (λ x. Gives (read_slice_outcome (number x.length)) (slice_state p.now) (map_ok reference_octets a) (slice_state q.now)) r.1 r.2.1.1) (c.in_err-octets.ensures.exact refl)) in
    search (rules, refused)

pub returns-in_err-finish-clause-err : goal.returns-in_err-finish-clause-err
returns-in_err-finish-clause-err c =
    let refused = finish_refused c.args.octets.now (slice_state c.in_ok-reader.reader) (slice_state c.decode_header.new.reader) (slice_state c.read_value.new.reader) c.in_ok-header.header reference_octets (λ e f reported. reported)
    c.in_ok-reader.ensures.ok (c.in_ok-reader.ensures.fits.0 refl) c.in_ok-header.ensures.ok c.in_ok-octets.octets c.in_err-finish.field-0.0
    (value_result_of_type (λ p a q r. at_contents c.in_ok-header.header (λ x. Gives (read_slice_outcome (number x.length)) (slice_state p.now) (map_ok reference_octets a) (slice_state q.now)) r.1 r.2.1.1) (c.in_ok-octets.ensures.exact tt))
    (c.in_err-finish.ensures.exact refl) in
    search (rules, refused)

pub returns-clause-whole : goal.returns-clause-whole
returns-clause-whole c =
    (whole_read c.args.octets.now (slice_state c.in_ok-reader.reader) (slice_state c.decode_header.new.reader) (slice_state c.read_value.new.reader) c.in_ok-header.header reference_octets (λ e f reported. reported)
    c.in_ok-reader.ensures.ok (c.in_ok-reader.ensures.fits.0 refl) c.in_ok-header.ensures.ok c.in_ok-octets.octets
    (value_result_of_type (λ p a q r. at_contents c.in_ok-header.header (λ x. Gives (read_slice_outcome (number x.length)) (slice_state p.now) (map_ok reference_octets a) (slice_state q.now)) r.1 r.2.1.1) (c.in_ok-octets.ensures.exact tt))
    (c.in_ok-finish.ensures.ok)).0

pub returns-clause-ok : goal.returns-clause-ok
returns-clause-ok c =
    let is = (whole_read c.args.octets.now (slice_state c.in_ok-reader.reader) (slice_state c.decode_header.new.reader) (slice_state c.read_value.new.reader) c.in_ok-header.header reference_octets (λ e f reported. reported)
    c.in_ok-reader.ensures.ok (c.in_ok-reader.ensures.fits.0 refl) c.in_ok-header.ensures.ok c.in_ok-octets.octets
    (value_result_of_type (λ p a q r. at_contents c.in_ok-header.header (λ x. Gives (read_slice_outcome (number x.length)) (slice_state p.now) (map_ok reference_octets a) (slice_state q.now)) r.1 r.2.1.1) (c.in_ok-octets.ensures.exact tt))
    (c.in_ok-finish.ensures.ok)).1 in
    ap (λ t. element_octets t (reference_octets c.in_ok-octets.octets)) c.tag.ensures ∙ is
