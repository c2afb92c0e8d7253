use Rattle.std.proofs.Common.{◌≡◌, ◌↔◌, true}
use Rattle.x509_names.specs.Lists.{SomeItem}
use Rattle.x509_names.specs.Identifiers.{PresentsAddress}
use Rattle.x509_names.proofs.matching.identifier.is_address_of.Given as goal

abbrev pub invariant-names : goal.invariant-names
invariant-names l = (l.found ≡ true) ↔ SomeItem (PresentsAddress l.address) l.yielded
