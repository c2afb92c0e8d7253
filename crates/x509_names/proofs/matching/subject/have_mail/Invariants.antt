use Rattle.std.proofs.Common.{◌≡◌, ◌↔◌, true}
use Rattle.x509_names.specs.Lists.{SomeItem}
use Rattle.x509_names.specs.Subjects.{IsRfc822Name}
use Rattle.x509_names.proofs.matching.subject.have_mail.Given as goal

abbrev pub invariant-names : goal.invariant-names
invariant-names l = (l.found ≡ true) ↔ SomeItem IsRfc822Name l.yielded
