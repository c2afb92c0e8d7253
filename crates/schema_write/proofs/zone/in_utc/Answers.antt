use Rattle.std.proofs.Common.{arith, ⊎_elim}
use Rattle.std.proofs.lemmas.Int.{ints}
use Rattle.schema_write.proofs.InstantLemmas.{all_seconds}
use Rattle.schema_write.proofs.zone.in_utc.Goals as goal

pub overflow_add-seconds : goal.overflow_add-seconds
overflow_add-seconds c =
    let few = all_seconds c.args.local.now c.requires.valid in
    omega (arith, ints, few, c.unix_seconds.ensures, c.requires.soon)

pub overflow_sub-seconds : goal.overflow_sub-seconds
overflow_sub-seconds c =
    let few = all_seconds c.args.local.now c.requires.valid in
    omega (arith, ints, few, c.unix_seconds.ensures, c.requires.soon, c.difference_of.ensures.least, c.difference_of.ensures.most)

pub returns-in-Some-clause-time : goal.returns-in-Some-clause-time
returns-in-Some-clause-time c d zone =
    let few = all_seconds c.args.local.now c.requires.valid in
    let diff = c.difference_of.ensures.value d zone in
    omega (arith, ints, few, diff, c.unix_seconds.ensures, c.in-Some.ensures.some.1, c.requires.soon, c.difference_of.ensures.least, c.difference_of.ensures.most)

pub returns-in-None-clause-none : goal.returns-in-None-clause-none
returns-in-None-clause-none c u d zone is e =
    let few = all_seconds c.args.local.now c.requires.valid in
    let all = all_seconds u is in
    let diff = c.difference_of.ensures.value d zone in
    ⊎_elim
    (λ low. omega (arith, ints, few, all, e, low, diff, c.unix_seconds.ensures, c.requires.soon, c.difference_of.ensures.least, c.difference_of.ensures.most))
    (λ high. omega (arith, ints, few, all, e, high, diff, c.unix_seconds.ensures, c.requires.soon, c.difference_of.ensures.least, c.difference_of.ensures.most))
    c.in-None.ensures.none
