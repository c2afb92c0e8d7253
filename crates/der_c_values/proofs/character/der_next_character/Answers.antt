use Rattle.std.proofs.Common.{◌-◌, length, drop, refl, length-drop, arith}
use Rattle.std.proofs.lemmas.List.{take_all}
use Rattle.der_c_values.specs.Characters.{taken}
use Rattle.der_c_values.proofs.character.der_next_character.Goals as goal

pub returns : goal.returns
returns c =
    let octets = c.args.text.now.octets.now in
    let some = c.in-Some.ensures.some in
    taken c.in-Some.first (drop c.in-Some.count octets) some.0 some.1 refl refl
    (take_all (length octets - c.in-Some.count) (drop c.in-Some.count octets) (omega (arith, length-drop c.in-Some.count octets))) refl
