use Rattle.std.proofs.Common.{◌≡◌, false, true, inl, inr}
use Rattle.std.proofs.Math.Logic.{∥∥₁_map}
use Rattle.der.specs.Prelude.{Sequence}
use Rattle.x509_path.proofs.CertificateLemmas.{contents_short}
use Rattle.x509_path.proofs.LimitLemmas.{short_if_read}
use Rattle.x509_path.proofs.QualifierLemmas.{unqualified_exactly}
use Rattle.x509_path.proofs.qualifiers.has_no_qualifiers.Goals as goal

pub returns-in-Ok : goal.returns-in-Ok
returns-in-Ok c =
    unqualified_exactly c.args.value.now c.in-Ok.policies.octets.now c.are_unqualified.result (short_if_read c.in-Ok.ensures.exact) c.in-Ok.ensures.ok.1 c.are_unqualified.ensures

pub returns-in-Err : goal.returns-in-Err
returns-in-Err c = (
  λ t. absurd (let f : false ≡ true = t in cc),
  λ h. absurd (let octets = h.1.0 in
      let list = ∥∥₁_map h.1.2 (λ x. x.0) in
      let short = contents_short Sequence c.args.value.now octets h.0 h.1.1 in
      elim (c.in-Err.ensures.complete (record { octets = record { ref_ptr = (0, 0); now = octets }; of = record {}; short = short; checked = list }) h.0 (list, short) h.1.1)
      [ inl never ↦ (let f : false ≡ true = never in cc) | inr lacks ↦ (let f : false ≡ true = lacks.0 in cc) ]),
)
