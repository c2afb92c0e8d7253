use Rattle.std.proofs.Common.{rules, refl}
use Rattle.der.specs.Prelude.{slice_state}
use Rattle.der_tool_lib.specs.Answer.{no_header}
use Rattle.der_tool_lib.proofs.ElementLemmas.{slice_is_element, error_is_no_element}
use Rattle.der_tool_lib.proofs.tlv.read_element.Goals as goal

pub returns-in_err-reader-clause-err : goal.returns-in_err-reader-clause-err
returns-in_err-reader-clause-err c = search (rules, no_header)

pub returns-clause-ok : goal.returns-clause-ok
returns-clause-ok c =
    slice_is_element c.args.rules c.args.octets.now (λ s. s.now) (slice_state c.in_ok-reader.reader) (slice_state c.tlv_bytes.new.self) c.tlv_bytes.result (c.in_ok-reader.ensures.fits.0 refl) c.in_ok-reader.ensures.ok
    c.tlv_bytes.ensures.exact

pub returns-clause-err : goal.returns-clause-err
returns-clause-err c =
    error_is_no_element c.args.rules c.args.octets.now (λ s. s.now) (slice_state c.in_ok-reader.reader) (slice_state c.tlv_bytes.new.self) c.tlv_bytes.result (c.in_ok-reader.ensures.fits.0 refl) c.in_ok-reader.ensures.ok
    c.tlv_bytes.ensures.exact
