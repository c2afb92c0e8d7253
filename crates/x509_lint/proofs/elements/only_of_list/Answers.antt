use Rattle.std.proofs.Common.{sym, ◌∙◌}
use Rattle.der.specs.Prelude.{slice_state}
use Rattle.x509_lint.proofs.ElementLemmas.{second}
use Rattle.x509_lint.proofs.elements.only_of_list.Goals as goal

pub returns-then-is_some-clause-none : goal.returns-then-is_some-clause-none
returns-then-is_some-clause-none c tag contents is =
    second (λ s. slice_state s.items.reader) c.args.elements.now.octets.now tag contents c.in-Some.element c.next.new.self c.next-in-Some.new.self c.next-in-Some.result
    (sym c.iter-items.ensures ∙ c.in-Some.ensures.steps.1.split) c.next-in-Some.ensures.steps (sym c.is_some.ensures ∙ c.if-is_some.true) is.2
