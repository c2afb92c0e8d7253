use Rattle.std.proofs.Common.{◌-◌, length, take, drop, ap, length-take-le, length-drop, length-append, arith}
use Rattle.ber.proofs.ListLemmas.{rest_of}
use Rattle.ber.proofs.GrammarLemmas.{header_two}
use Rattle.schema_read.proofs.opening.after_header.Goals as goal

pub returns-else-after-length-clause-shorter : goal.returns-else-after-length-clause-shorter
returns-else-after-length-clause-shorter c =
    let octets = c.args.place.octets.now in
    let after = take (length octets - c.args.header.header_len) (drop c.args.header.header_len octets) in
    let n = c.in-Definite.length in
    omega (arith, header_two c.requires.is, length-take-le n after c.if-after-length.false, ap length (rest_of n after), length-drop n after, ap length (rest_of c.args.header.header_len octets), length-drop c.args.header.header_len octets, ap length c.requires.split, length-append c.requires.front c.requires.rest, c.requires.is.whole)

pub returns-in-Indefinite-clause-shorter : goal.returns-in-Indefinite-clause-shorter
returns-in-Indefinite-clause-shorter c =
    let octets = c.args.place.octets.now in
    omega (arith, header_two c.requires.is, ap length c.at.ensures.octets, ap length (rest_of c.args.header.header_len octets), length-drop c.args.header.header_len octets, ap length c.requires.split, length-append c.requires.front c.requires.rest, c.requires.is.whole)
