use Rattle.std.proofs.Common.{rules, refl}
use Rattle.der.specs.Prelude.{slice_state}
use Rattle.der_tool_lib.proofs.HeaderLemmas.{refused_header, read_header}
use Rattle.der_tool_lib.proofs.head.read_head.Goals as goal

pub returns-in_err-header-clause-err : goal.returns-in_err-header-clause-err
returns-in_err-header-clause-err c =
    let refused = refused_header c.args.rules c.args.octets.now (slice_state c.in_ok-reader.reader) (slice_state c.decode_header.new.reader) c.in_ok-reader.ensures.ok (c.in_ok-reader.ensures.fits.0 refl)
    c.in_err-header.field-0.0 (c.in_err-header.ensures.refused refl) in
    search (rules, refused)

pub returns-clause-ok : goal.returns-clause-ok
returns-clause-ok c =
    read_header c.args.rules c.args.octets.now (slice_state c.in_ok-reader.reader) (slice_state c.decode_header.new.reader) c.in_ok-reader.ensures.ok (c.in_ok-reader.ensures.fits.0 refl) c.in_ok-header.header c.in_ok-rest.rest.now
    c.in_ok-header.ensures.ok c.in_ok-rest.ensures.ok
