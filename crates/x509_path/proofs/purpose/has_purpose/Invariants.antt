use Rattle.std.proofs.Common.{◌≡◌, ◌↔◌, true}
use Rattle.x509_names.specs.Lists.{SomeItem}
use Rattle.x509_path.specs.Purpose.{IsPurpose}
use Rattle.x509_path.proofs.purpose.has_purpose.Given as goal

abbrev pub invariant-purposes : goal.invariant-purposes
invariant-purposes l = (l.found ≡ true) ↔ SomeItem (λ v. IsPurpose l.purpose l.any_counts v.octets.now) l.yielded
