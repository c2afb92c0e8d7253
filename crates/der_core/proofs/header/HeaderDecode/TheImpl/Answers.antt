use Rattle.std.proofs.lemmas.Result.{IfOk-weaker}
use Rattle.der_core.proofs.HeaderReadLemmas.{decoded_header_grammar}
use Rattle.der_core.proofs.DecodeLemmas.{decodes_reliably, reads}
use Rattle.der_core.proofs.header.HeaderDecode.TheImpl.Goals as goal

pub decode-tells : goal.decode-tells
decode-tells g c =
    record {
      same = c.ensures.same;
      ok = IfOk-weaker c.result _ _ (λ v read working after. read) c.ensures.ok;
      complete = λ v m reliable working next levels. reads decoded_header_grammar _ _ v m c.ensures reliable working next levels;
      exact = λ reliable. decodes_reliably reliable c.ensures;
    }
