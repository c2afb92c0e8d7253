use Rattle.std.proofs.Common.{rules, true, refl, arith}
use Rattle.der.specs.Prelude.{number, slice_state}
use Rattle.der.proofs.ElementLemmas.{reliable_owes}
use Rattle.example_calls.proofs.SetReadLemmas.{slice_sound, part_read, part_judged}
use Rattle.example_calls.proofs.set_of.pass_contents.Goals as goal

pub returns-clause-ok : goal.returns-clause-ok
returns-clause-ok c = part_read (λ p. slice_state p.now) (λ q. slice_state q.now) (number c.args.len) (slice_state c.args.reader.now) (slice_state c.read_nested.new.self) c.read_nested.result (λ p a q there r. search rules) c.read_nested.ensures.exact

pub returns-clause-exact : goal.returns-clause-exact
returns-clause-exact c strings more are count =
    let reader = c.args.reader.now in
    part_judged (λ p. slice_state p.now) (λ q. slice_state q.now) (number c.args.len) (slice_state reader) (slice_state c.read_nested.new.self) c.read_nested.result (λ p a q there r. search rules) strings more
    (slice_sound reader) (omega (arith, c.requires.shallow)) are count (c.read_nested.ensures.exact (reliable_owes true c.read_nested.result refl))
