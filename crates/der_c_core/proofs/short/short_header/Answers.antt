use Rattle.std.proofs.Common.{refl, arith}
use Rattle.der_c_core.specs.CReader.{reader_state}
use Rattle.der_c_core.proofs.ShortLemmas.{header_of_two, header_of_three, header_of_four}
use Rattle.der_c_core.proofs.short.short_header.Goals as goal

pub returns-then-length-lt128 : goal.returns-then-length-lt128
returns-then-length-lt128 c =
    header_of_two (reader_state c.args.reader.now) c.in-Ok.next.now (c.in-Ok.ensures.exact refl) (c.is_identifier.ensures c.if-not-is_identifier.false) (omega (arith, c.if-next-lt2.false)) c.if-length-lt128.true

pub returns-then-count-ge128 : goal.returns-then-count-ge128
returns-then-count-ge128 c =
    let n = c.number_of-count in
    header_of_three (reader_state c.args.reader.now) c.in-Ok.next.now (c.in-Ok.ensures.exact refl) (c.is_identifier.ensures c.if-not-is_identifier.false) n.result (omega (arith, c.if-next-gt2.true)) c.if-length.true n.ensures.same
    c.if-count-ge128.true n.ensures.small

pub returns-then-high-gt0 : goal.returns-then-high-gt0
returns-then-high-gt0 c =
    let a = c.number_of-high in
    let b = c.number_of-low in
    header_of_four (reader_state c.args.reader.now) c.in-Ok.next.now (c.in-Ok.ensures.exact refl) (c.is_identifier.ensures c.if-not-is_identifier.false) a.result b.result (omega (arith, c.if-next-gt3.true)) c.if-length-2.true
    a.ensures.same b.ensures.same (omega (arith, c.if-high-gt0.true)) a.ensures.small b.ensures.small
