use Rattle.std.proofs.Common.{Option, sym, subst}
use Rattle.der_asn1.specs.declared.fields.implicit.Implicit.{Implicit}
use Rattle.x509.specs.declared.asn1.general_subtrees.GeneralSubtrees.{GeneralSubtrees}
use Rattle.x509_names.specs.Constraints.{IsTally}
use Rattle.x509_names.specs.Verdicts.{subtrees_octets}
use Rattle.x509_names.proofs.matching.verdict.excluded_tally.Goals as goal

pub returns-in-None : goal.returns-in-None
returns-in-None c =
    subst (λ (o : Option (Implicit GeneralSubtrees 1)). IsTally (subtrees_octets o) c.args.name.now c.no_tally.result) (sym c.in-None.is) (c.no_tally.ensures c.args.name.now)
