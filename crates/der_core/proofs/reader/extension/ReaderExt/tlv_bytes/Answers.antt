use Rattle.std.proofs.Common.{◌+◌, refl, ap, arith}
use Rattle.std.proofs.lemmas.Result.{err_from_is_err_and}
use Rattle.der_base.specs.Length.{number}
use Rattle.der_core.specs.Decode.{no_header}
use Rattle.der_core.specs.Reader.{read_slice_outcome}
use Rattle.der_core.proofs.DecodeLemmas.{decodes_reliably}
use Rattle.der_core.proofs.PeekLemmas.{peeks, header_octets_are, tlv_read, tlv_far, owed_gives, counted_ok, counted_err}
use Rattle.der_core.proofs.reader.extension.ReaderExt.tlv_bytes.Goals as goal

pub returns-in_err-header-clause-exact : goal.returns-in_err-header-clause-exact
returns-in_err-header-clause-exact g c =
    let p = err_from_is_err_and c.from_residual.result c.from_residual.ensures.1 in
    rw (p.1, p.2)
    (λ owed. no_header _ (peeks c.fork-fork.ensures (decodes_reliably owed c.in_err-header.ensures)) refl refl)

pub returns-clause-exact : goal.returns-clause-exact
returns-clause-exact g c owed =
    let sum = counted_ok _ _ c.in_ok-len.ensures in
    let octets = header_octets_are (g.Self.Reader.state c.args.self.now) (g.Self.Reader.state c.fork-fork.result) (g.Self.Reader.state c.decode_header.new.reader) c.in_ok-header.header c.fork-fork.ensures c.in_ok-header.ensures.ok in
    tlv_read (g.Self.Reader.state c.args.self.now) (g.Self.Reader.state c.fork-fork.result) (g.Self.Reader.state c.decode_header.new.reader) c.in_ok-header.header c.fork-fork.ensures c.in_ok-header.ensures.ok
    (number c.in_ok-len.len) _ _
    (omega (arith, ap number sum.1, octets, ap number c.saturating_sub-header_len.ensures, ap number c.position.ensures, ap number c.position-2.ensures, ap number c.length.ensures))
    (omega (arith, sum.0, ap number sum.1)) (owed_gives g.Self.Reader.reliable g.Self.Borrowed.Octets.octets (read_slice_outcome (number c.in_ok-len.len)) _ _ c.read_slice.result owed c.read_slice.ensures.exact)

pub returns-in_err-len-clause-exact : goal.returns-in_err-len-clause-exact
returns-in_err-len-clause-exact g c =
    let p = err_from_is_err_and c.from_residual-in_err-len.result c.from_residual-in_err-len.ensures.1 in
    let sum = counted_err _ _ c.in_err-len.ensures in
    let octets = header_octets_are (g.Self.Reader.state c.args.self.now) (g.Self.Reader.state c.fork-fork.result) (g.Self.Reader.state c.decode_header.new.reader) c.in_ok-header.header c.fork-fork.ensures c.in_ok-header.ensures.ok in
    rw (p.1, p.2)
    (λ owed. tlv_far (g.Self.Reader.state c.args.self.now) (g.Self.Reader.state c.fork-fork.result) (g.Self.Reader.state c.decode_header.new.reader) c.in_ok-header.header c.fork-fork.ensures c.in_ok-header.ensures.ok
    (number c.saturating_sub-header_len.result + number c.length.result) _
    (omega (arith, octets, ap number c.saturating_sub-header_len.ensures, ap number c.position.ensures, ap number c.position-2.ensures, ap number c.length.ensures)) sum.0 sum.1)
