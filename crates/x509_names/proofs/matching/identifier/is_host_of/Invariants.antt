use Rattle.std.proofs.Common.{◌≡◌, ◌↔◌, true}
use Rattle.x509_names.specs.Lists.{SomeItem}
use Rattle.x509_names.specs.Identifiers.{PresentsHost}
use Rattle.x509_names.proofs.matching.identifier.is_host_of.Given as goal

abbrev pub invariant-names : goal.invariant-names
invariant-names l = (l.found ≡ true) ↔ SomeItem (PresentsHost l.host) l.yielded
