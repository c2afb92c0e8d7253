use Rattle.std.proofs.Common.{sym, ◌∙◌}
use Rattle.der.proofs.EqualityLemmas.{tag_equality}
use Rattle.x509_names.proofs.matching.attribute.is_same_tag.Goals as goal

pub returns : goal.returns
returns c =
    let reported = tag_equality c.args.first c.args.second in
    (λ e. reported.0 (sym c.eq.ensures ∙ e), λ e. c.eq.ensures ∙ reported.1 e)
