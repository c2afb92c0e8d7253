use Rattle.std.proofs.Common.{refl, rules}
use Rattle.der_base.specs.ScanGrammar.{BodyFault}
use Rattle.der_core.specs.Decode.{IsRefusedBy}
use Rattle.der_c_core.specs.ScanCall.{scanned, refused}
use Rattle.der_c_core.proofs.ReadLemmas.{fails_by}
use Rattle.der_c_core.proofs.scan.der_scan.Goals as goal

pub returns-in-Ok : goal.returns-in-Ok
returns-in-Ok c = scanned c.in-Ok.length (search rules) c.in-Ok.ensures.ok refl c.from.ensures

pub returns-in-Err : goal.returns-in-Err
returns-in-Err c =
    refused (search rules) (search rules) (fails_by (λ e u. IsRefusedBy (λ rules. BodyFault) _ e u) c.in-Err.error _ (c.in-Err.ensures.refused refl) c.fail-in-Err.ensures.reported c.fail-in-Err.ensures.stopped) refl
