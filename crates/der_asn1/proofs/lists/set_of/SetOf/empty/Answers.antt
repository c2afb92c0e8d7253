use Rattle.std.proofs.Common.{[], arith, length, refl, sym, ap, subst}
use Rattle.der_asn1.specs.SetOf.{AreAscending}
use Rattle.der_asn1.proofs.lists.set_of.SetOf.empty.Goals as goal

pub invariant_of-result : goal.invariant_of-result
invariant_of-result g c =
    record {
      short = omega (arith, ap length c.empty.ensures);
      ascending = ∣ subst (AreAscending g.T.Item.item.valid g.T.Item.item.octets) (sym c.empty.ensures) (record { list = record { items = []; are_valid = tt; joined = refl }; ascend = tt }) ∣₁;
    }
