use Rattle.std.proofs.Common.{◌≡◌, false, true, inl, inr, refl}
use Rattle.x509_path.proofs.PurposeLemmas.{false_not_true}
use Rattle.x509_path.proofs.verdicts.octets_verdict.Goals as goal

pub returns-in-Ok : goal.returns-in-Ok
returns-in-Ok c = inl (record { subject = record { levels = c.in-Ok.levels }; same = c.in-Ok.ensures.ok.0; judged = c.subject_verdict.ensures })

pub returns-in-Err : goal.returns-in-Err
returns-in-Err c =
    inr (
      λ h. elim (c.in-Err.ensures.complete h.short h.levels) [ inl never ↦ false_not_true never | inr lacks ↦ false_not_true lacks.0 ],
      refl,
    )
