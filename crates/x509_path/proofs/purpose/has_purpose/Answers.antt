use Rattle.std.proofs.Common.{◌≡◌, ◌↔◌, true, subst}
use Rattle.der.specs.Prelude.{slice_state}
use Rattle.x509_path.proofs.SameLemmas.{some_on}
use Rattle.x509_path.proofs.WalkedLemmas.{purpose_walked}
use Rattle.x509_path.specs.Purpose.{IsPurpose}
use Rattle.x509_path.proofs.purpose.has_purpose.Goals as goal

pub purposes-preserved : goal.purposes-preserved
purposes-preserved c =
    some_on (λ v. IsPurpose c.args.purpose.now c.args.any_counts v.octets.now) c.purposes.found c.is_purpose-found.result c.purposes.yielded c.in-Some.item c.purposes.invariant
    (subst (λ o. (c.is_purpose-found.result ≡ true) ↔ IsPurpose c.args.purpose.now c.args.any_counts o) c.octets.ensures.value c.is_purpose-found.ensures)

pub returns : goal.returns
returns c =
    purpose_walked c.purposes.yielded c.into_iter-item-iterator.result c.iter-item-items.result c.purposes.item-iterator c.next.new.self (λ i. slice_state i.items.reader) (λ v. v.octets.now)
    c.args.purposes.now.octets.now c.args.purpose.now c.args.any_counts c.purposes.found c.into_iter-item-iterator.ensures.into_iter_gives c.iter-item-items.ensures c.purposes.yielded_by c.in-None.ensures.steps c.purposes.invariant
