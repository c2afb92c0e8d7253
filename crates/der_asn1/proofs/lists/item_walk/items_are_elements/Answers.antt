use Rattle.der_asn1.proofs.lists.item_walk.items_are_elements.Goals as goal

pub returns : goal.returns
returns g c = g.met.T.DecodeItem.is_item.element
