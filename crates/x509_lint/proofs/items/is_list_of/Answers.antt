use Rattle.der.specs.Prelude.{Sequence}
use Rattle.x509_lint.proofs.ElementLemmas.{of_some_contents}
use Rattle.x509_lint.specs.Items.{AreItems}
use Rattle.x509_lint.proofs.items.is_list_of.Goals as goal

pub returns-in-Some : goal.returns-in-Some
returns-in-Some g c =
    of_some_contents (AreItems g.T.Item.item.valid g.T.Item.item.octets) c.args.octets.now Sequence c.in-Some.contents.now c.are_items.result c.in-Some.ensures.some c.are_items.ensures
