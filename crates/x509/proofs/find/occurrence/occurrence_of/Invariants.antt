use Rattle.std.proofs.Common.{◌≡◌}
use Rattle.x509.specs.Find.{of_type, occurrence}
use Rattle.x509.proofs.find.occurrence.occurrence_of.Given as goal

abbrev pub invariant-items : goal.invariant-items
invariant-items g l = l.found ≡ occurrence (of_type g.T.Typed.type_octets l.oid l.yielded)
