use Rattle.std.proofs.Common.{◌≡◌, false, true, inl, inr, refl}
use Rattle.x509_path.proofs.LimitLemmas.{short_if_read}
use Rattle.x509_path.proofs.PurposeLemmas.{false_not_true}
use Rattle.x509_path.proofs.verdicts.value_verdict.Goals as goal

pub returns-in-Ok : goal.returns-in-Ok
returns-in-Ok c =
    inl (
      c.in-Ok.constraints,
      record { short = short_if_read c.in-Ok.ensures.exact; valid = c.in-Ok.ensures.ok.0; encoding = c.in-Ok.ensures.ok.1 },
      c.constraints_verdict.ensures,
    )

pub returns-in-Err : goal.returns-in-Err
returns-in-Err c =
    inr (
      λ n h. elim (c.in-Err.ensures.complete n h.short h.valid h.encoding) [ inl never ↦ false_not_true never | inr lacks ↦ false_not_true lacks.0 ],
      refl,
    )
