use Rattle.std.proofs.lemmas.Result.{IfOk-weaker}
use Rattle.der_base.specs.ScanGrammar.{BodyFault}
use Rattle.der_base.proofs.HeaderLemmas.{length_grammar}
use Rattle.der_base.proofs.ScanLemmas.{body_fault_laws}
use Rattle.der_core.proofs.DecodeLemmas.{decodes_reliably, reads}
use Rattle.der_core.proofs.length.LengthDecode.TheImpl.Goals as goal

pub decode-tells : goal.decode-tells
decode-tells g c =
    record {
      same = c.ensures.same;
      ok = IfOk-weaker c.result _ _ (λ v read working after. read) c.ensures.ok;
      complete = λ v m reliable working next levels. reads (length_grammar BodyFault body_fault_laws _) _ _ v m c.ensures reliable working next levels;
      exact = λ reliable. decodes_reliably reliable c.ensures;
    }
