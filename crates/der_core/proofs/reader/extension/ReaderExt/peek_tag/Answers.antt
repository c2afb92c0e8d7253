use Rattle.der_core.proofs.PeekLemmas.{peeks}
use Rattle.der_core.proofs.reader.extension.ReaderExt.peek_tag.Goals as goal

pub returns : goal.returns
returns g c = peeks c.fork-fork.ensures c.decode_tag.ensures
