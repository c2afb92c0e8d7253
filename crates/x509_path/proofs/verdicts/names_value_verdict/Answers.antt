use Rattle.std.proofs.Common.{◌≡◌, false, true, inl, inr, refl}
use Rattle.der.specs.Prelude.{Sequence}
use Rattle.x509_path.proofs.CertificateLemmas.{contents_short}
use Rattle.x509_path.proofs.LimitLemmas.{short_if_read}
use Rattle.x509_path.proofs.PurposeLemmas.{false_not_true}
use Rattle.x509_path.proofs.verdicts.names_value_verdict.Goals as goal

pub returns-in-Ok : goal.returns-in-Ok
returns-in-Ok c =
    let judged = c.all_names_verdict.ensures in
    inl (
      c.in-Ok.names.octets.now,
      record { short = short_if_read c.in-Ok.ensures.exact; encoding = c.in-Ok.ensures.ok.1; list = judged.others_are.names },
      judged,
    )

pub returns-in-Err : goal.returns-in-Err
returns-in-Err c =
    inr (
      λ names h. (
          let short = contents_short Sequence c.args.value.now names h.short h.encoding in
          elim (c.in-Err.ensures.complete (record { octets = record { ref_ptr = (0, 0); now = names }; of = record {}; short = short; checked = ∣ h.list ∣₁ }) h.short (∣ h.list ∣₁, short) h.encoding) [ inl never ↦ false_not_true never | inr lacks ↦ false_not_true lacks.0 ]),
      refl,
    )
