use Rattle.std.proofs.Common.{rules, ◌≡◌, ◌-◌, ◌∷◌, Bool, length, get_or, take, drop, ap, ◌∙◌, arith}
use Rattle.std.proofs.lemmas.Result.{IfOk-weaker, IfErr-weaker}
use Rattle.der_base.specs.FixedOctets.{long_form}
use Rattle.ber.specs.Length.{LengthNext}
use Rattle.ber.specs.Fault.{IsLengthFault, nothing, reserved, primitive}
use Rattle.ber.proofs.ListLemmas.{first_of, none_of}
use Rattle.ber.proofs.LengthLemmas.{length_at, length_short, length_indefinite, length_fault_at}
use Rattle.ber.proofs.length_octets.LengthOctets.read.Goals as goal

pub returns-in-empty-clause-fault : goal.returns-in-empty-clause-fault
returns-in-empty-clause-fault c = rw c.truncated.ensures (length_fault_at (none_of c.args.octets.now c.in-empty.len_below) nothing)

pub returns-in-len1-up-clause-found : goal.returns-in-len1-up-clause-found
returns-in-len1-up-clause-found c =
    let octets = c.args.octets.now in
    length_at (first_of octets c.in-len1-up.len_at_least) (length_short (get_or octets 0 0) c.args.constructed (take (length octets - 1) (drop 1 octets)) c.if-first-lt128.true)

pub returns-in-128-clause-found : goal.returns-in-128-clause-found
returns-in-128-clause-found c =
    let octets = c.args.octets.now in
    let rest = take (length octets - 1) (drop 1 octets) in
    let first : get_or octets 0 0 ≡ 128 = search rules in
    length_at (first_of octets c.in-len1-up.len_at_least ∙ ap (λ o. o ∷ rest) first) (length_indefinite c.args.constructed rest c.if-constructed.true)

pub returns-in-128-2-clause-fault : goal.returns-in-128-2-clause-fault
returns-in-128-2-clause-fault c =
    let octets = c.args.octets.now in
    let rest = take (length octets - 1) (drop 1 octets) in
    let first : get_or octets 0 0 ≡ 128 = search rules in
    rw c.new.ensures (length_fault_at (first_of octets c.in-len1-up.len_at_least ∙ ap (λ o. o ∷ rest) first) (primitive c.if-constructed.false rest))

pub returns-in-255-clause-fault : goal.returns-in-255-clause-fault
returns-in-255-clause-fault c =
    let octets = c.args.octets.now in
    let rest = take (length octets - 1) (drop 1 octets) in
    let first : get_or octets 0 0 ≡ 255 = search rules in
    rw c.new-in-255.ensures (length_fault_at (first_of octets c.in-len1-up.len_at_least ∙ ap (λ o. o ∷ rest) first) (reserved rest))

pub returns-in-len1-up-2-clause-found : goal.returns-in-len1-up-2-clause-found
returns-in-len1-up-2-clause-found c =
    let octets = c.args.octets.now in
    let rest = take (length octets - 1) (drop 1 octets) in
    let first : get_or octets 0 0 ≡ long_form (get_or octets 0 0 - 128) = omega arith in
    IfOk-weaker c.read_long.result (λ l. (b : Bool) → LengthNext l b (long_form (get_or octets 0 0 - 128) ∷ rest)) (λ l. LengthNext l c.args.constructed octets)
    (λ l h. length_at (first_of octets c.in-len1-up.len_at_least ∙ ap (λ o. o ∷ rest) first) (h c.args.constructed)) c.read_long.ensures.found

pub returns-in-len1-up-2-clause-fault : goal.returns-in-len1-up-2-clause-fault
returns-in-len1-up-2-clause-fault c =
    let octets = c.args.octets.now in
    let rest = take (length octets - 1) (drop 1 octets) in
    let first : get_or octets 0 0 ≡ long_form (get_or octets 0 0 - 128) = omega arith in
    IfErr-weaker c.read_long.result (λ f. (b : Bool) → IsLengthFault b c.args.at (long_form (get_or octets 0 0 - 128) ∷ rest) f) (λ f. IsLengthFault c.args.constructed c.args.at octets f)
    (λ f h. length_fault_at (first_of octets c.in-len1-up.len_at_least ∙ ap (λ o. o ∷ rest) first) (h c.args.constructed)) c.read_long.ensures.fault
