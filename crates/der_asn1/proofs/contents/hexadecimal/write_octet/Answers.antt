use Rattle.std.proofs.Common.{rules, ◌<◌, true, sym, arith}
use Rattle.std.proofs.lemmas.Fmt.{hex_byte}
use Rattle.der_asn1.proofs.contents.hexadecimal.write_octet.Goals as goal

pub returns : goal.returns
returns g c =
    let small : c.args.octet < 256 = omega arith in
    rw (sym (hex_byte true c.args.octet small)) (search (rules, c.in_radix.ensures, c.laid_out.ensures, c.write.ensures))
