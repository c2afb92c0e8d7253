use Rattle.std.proofs.Common.{length, sym, ◌∙◌, arith}
use Rattle.std.proofs.lemmas.List.Sums.{position_or_len_is}
use Rattle.x509_names.specs.Uris.{is_mark}
use Rattle.x509_names.proofs.forms.uri.first_mark.Goals as goal

pub returns-then-is_mark-clause-exact : goal.returns-then-is_mark-clause-exact
returns-then-is_mark-clause-exact c =
    sym (position_or_len_is (is_mark c.args.mark) c.args.octets.now c.loop-at.at 0 (omega arith) c.loop-at.invariant (λ _. sym c.is_mark.ensures ∙ c.if-is_mark.true))

pub returns-clause-exact : goal.returns-clause-exact
returns-clause-exact c =
    sym (position_or_len_is (is_mark c.args.mark) c.args.octets.now (length c.args.octets.now) 0 (omega arith) (λ k h. c.loop-at.invariant k (omega arith)) (λ h. absurd (omega arith)))
