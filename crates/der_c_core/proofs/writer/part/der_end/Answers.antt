use Rattle.std.proofs.Common.{◌≡◌, ◌-◌, refl, ap, rules, arith}
use Rattle.std.proofs.lemmas.Bool.Decides.{nat_tests}
use Rattle.der_base.specs.Length.{number}
use Rattle.der_base.proofs.LengthLemmas.{length_octets_few}
use Rattle.der_c_core.specs.Part.{no_space}
use Rattle.der_c_core.proofs.writer.part.der_end.Goals as goal

pub returns-in_default : goal.returns-in_default
returns-in_default c =
    let w = c.args.writer.now in
    let count : number c.new.result ≡ w.position - c.args.mark.now.start = ap number c.new.ensures in
    let few = length_octets_few (number c.new.result) (omega (arith, count, w.countable)) in
    let fits = c.encode_to_slice.ensures.succeeds tt (omega (arith, few)) few in
    absurd (search (rules, fits))

pub returns-then-more-stop : goal.returns-then-more-stop
returns-then-more-stop c = no_space c.refusal-then-more-stop.result (search rules) (search rules) (record { answered = grind (rules, nat_tests); leaves = grind (rules, nat_tests) }) c.c_error-then-more-stop.ensures refl
