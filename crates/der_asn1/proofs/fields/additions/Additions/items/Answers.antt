use mathlib.Core.Logic.{∥∥₁_map}
use Rattle.der_asn1.proofs.UnknownLemmas.{any_list}
use Rattle.der_asn1.proofs.fields.additions.Additions.items.Goals as goal

pub new-requires-clause-checked : goal.new-requires-clause-checked
new-requires-clause-checked g c = ∥∥₁_map c.args.self.now.checked (any_list g.K.KnownTags.known)
