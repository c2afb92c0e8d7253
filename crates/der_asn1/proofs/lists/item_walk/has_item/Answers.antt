use Rattle.der_asn1.proofs.ListAnswerLemmas.{not_both}
use Rattle.der_asn1.proofs.OptionalReadLemmas.{rest_before_end}
use Rattle.der_asn1.proofs.lists.item_walk.has_item.Goals as goal

pub returns-clause-some : goal.returns-clause-some
returns-clause-some g c left = rest_before_end (g.R.Reader.state c.args.reader.now) (g.met.R.Reader.sound_state c.args.reader.now) (λ e. not_both c.is_finished.result (c.is_finished.ensures.1 e) left)

pub returns-clause-more : goal.returns-clause-more
returns-clause-more g c left e = not_both c.is_finished.result (c.is_finished.ensures.1 e) left
