use Rattle.std.proofs.Common.{refl}
use Rattle.der_c_core.proofs.CompareLemmas.{header_refused, contents_refused, octets_left}
use Rattle.der_c_core.proofs.compare.whole.Goals as goal

pub returns-in-Err-decode_header-clause-refused : goal.returns-in-Err-decode_header-clause-refused
returns-in-Err-decode_header-clause-refused c = header_refused c.in-Ok.ensures.ok (c.in-Err-decode_header.ensures.refused refl)

pub returns-in-Ok-read_slice-clause-refused : goal.returns-in-Ok-read_slice-clause-refused
returns-in-Ok-read_slice-clause-refused c =
    octets_left c.finish.result c.in-Ok.ensures.ok c.in-Ok-decode_header.ensures.ok c.length.ensures c.in-Ok-read_slice.ensures.exact (c.finish.ensures.exact refl)

pub returns-in-Err-read_slice-clause-refused : goal.returns-in-Err-read_slice-clause-refused
returns-in-Err-read_slice-clause-refused c =
    contents_refused c.in-Ok.ensures.ok c.in-Ok-decode_header.ensures.ok c.length.ensures (c.in-Err-read_slice.ensures.exact refl)
