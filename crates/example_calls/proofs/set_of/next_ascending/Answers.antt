use Rattle.std.proofs.Common.{Err, sym, ap, subst, inr, ◌∙◌}
use Rattle.der.specs.Prelude.{error_at, IsBefore}
use Rattle.der.specs.ErrorKinds.{SetOrdering}
use Rattle.der.proofs.OrderLemmas.{before_from_less, less_from_before}
use Rattle.der.specs.BorrowedOctets.{borrowed_octets}
use Rattle.example_calls.specs.AscendingStrings.{string_octets}
use Rattle.example_calls.proofs.SetReadLemmas.{string_is}
use Rattle.example_calls.proofs.set_of.next_ascending.Goals as goal

pub returns-in-Less-clause-exact : goal.returns-in-Less-clause-exact
returns-in-Less-clause-exact c x more there =
    let last = string_octets (borrowed_octets c.args.previous.now) in
    let element = borrowed_octets c.in_ok-element.element in
    let before = before_from_less (string_octets element) last (sym c.encoding_order.ensures ∙ c.in-Less.is) in
    inr (subst (λ v. IsBefore (string_octets v) last) (sym (string_is x element more c.in_ok-element.ensures.ok there)) before, ap Err (c.at.ensures ∙ ap (error_at SetOrdering) c.position-begins.ensures))

pub returns-in_default-clause-ok : goal.returns-in_default-clause-ok
returns-in_default-clause-ok c = (c.in_ok-element.ensures.ok, λ before. c.in_default.not-Less (c.encoding_order.ensures ∙ less_from_before _ _ before))
