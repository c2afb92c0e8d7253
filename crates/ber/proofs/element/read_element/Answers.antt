use Rattle.std.proofs.Common.{length, ap, length-drop, arith}
use Rattle.ber.specs.Element.{no_header, indefinite, truncated}
use Rattle.ber.proofs.ListLemmas.{rest_of}
use Rattle.ber.proofs.ElementLemmas.{no_element_at_fault, no_element_indefinite, no_element_truncated, element_read, rest_shorter}
use Rattle.ber.proofs.element.read_element.Goals as goal

pub returns-in-Err-clause-none : goal.returns-in-Err-clause-none
returns-in-Err-clause-none c = no_element_at_fault c.in-Err.ensures.fault

pub returns-in-Err-clause-fault : goal.returns-in-Err-clause-fault
returns-in-Err-clause-fault c = no_header c.in-Err.fault c.in-Err.ensures.fault

pub returns-in-Indefinite-clause-none : goal.returns-in-Indefinite-clause-none
returns-in-Indefinite-clause-none c = no_element_indefinite c.in-Ok.ensures.found c.in-Indefinite.is

pub returns-in-Indefinite-clause-fault : goal.returns-in-Indefinite-clause-fault
returns-in-Indefinite-clause-fault c = indefinite c.in-Ok.header c.in-Ok.ensures.found c.in-Indefinite.is

pub returns-then-after-length-clause-none : goal.returns-then-after-length-clause-none
returns-then-after-length-clause-none c =
    let octets = c.args.octets.now in
    let at = c.in-Ok.header.header_len in
    no_element_truncated c.in-Definite.length c.in-Ok.ensures.found c.in-Definite.is (omega (arith, c.in-Ok.ensures.within, ap length (rest_of at octets), length-drop at octets))

pub returns-then-after-length-clause-fault : goal.returns-then-after-length-clause-fault
returns-then-after-length-clause-fault c =
    let octets = c.args.octets.now in
    let at = c.in-Ok.header.header_len in
    truncated c.in-Ok.header c.in-Definite.length c.in-Ok.ensures.found c.in-Definite.is (omega (arith, c.in-Ok.ensures.within, ap length (rest_of at octets), length-drop at octets))

pub returns-clause-found : goal.returns-clause-found
returns-clause-found c = element_read c.args.octets.now c.in-Ok.header c.in-Definite.length c.in-Ok.ensures.found c.in-Definite.is c.if-after-length.false

pub returns-clause-shorter : goal.returns-clause-shorter
returns-clause-shorter c = let found = returns-clause-found c in rest_shorter c.args.octets.now _ c.in-Ok.header _ found.0 found.1 found.2
