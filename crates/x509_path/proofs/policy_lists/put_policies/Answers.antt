use Rattle.std.proofs.Common.{◌≡◌, ◌∙◌, false, true, ℕ, List, Ok, ap, inl, inr, subst, sym}
use Rattle.std.specs.Borrow.{Bor}
use Rattle.der.specs.Prelude.{Sequence}
use Rattle.x509.specs.ExtensionIdentifiers.{id_ce}
use Rattle.x509.specs.contracts.asn1.policy_information.PolicyInformationItem.TheImpl as policy
use Rattle.x509_path.proofs.CertificateLemmas.{contents_short}
use Rattle.x509_path.proofs.PolicyListLemmas.{fills_err, fills_none, fills_read}
use Rattle.x509_path.proofs.QualifierLemmas.{policies_apart, policy_read}
use Rattle.x509_path.specs.PolicyFactsOf.{HasPolicies, policy_octets, policy_of}
use Rattle.x509_path.specs.PolicyRooms.{Fills}
use Rattle.x509_path.proofs.policy_lists.put_policies.Goals as goal

pub returns-in-Ok-None : goal.returns-in-Ok-None
returns-in-Ok-None c =
    fills_none policy.ghosts.item.valid policy.ghosts.item.octets policies_apart policy_of policy_read policy_octets _ (id_ce 32) c.args.signed.now c.find_extension.result c.find_extension.ensures.absent c.find_extension.ensures.found (c.in-Ok-None.is ∙ ap Ok c.in-Ok-None.field-0-is) c.args.room.now c.args.start c.requires

pub returns-in-Ok-Some : goal.returns-in-Ok-Some
returns-in-Ok-Some c =
    subst (Fills (λ (xs : List (Bor (List ℕ))). HasPolicies xs c.args.signed.now) c.args.room.now c.put_identifiers.new.room c.args.start) (sym c.filled.ensures)
    (fills_read policy.ghosts.item.valid policy.ghosts.item.octets policies_apart policy_of policy_read policy_octets _ (id_ce 32) c.args.signed.now c.find_extension.result c.find_extension.ensures.absent c.find_extension.ensures.found c.in-Ok-Some.known c.in-Ok-Some.known.value.octets.now (c.in-Ok-Some.is ∙ ap Ok c.in-Ok-Some.field-0-is) (λ v r. r.ok.1)
    c.put_identifiers.ensures.0 c.args.room.now c.put_identifiers.new.room c.args.start c.put_identifiers.result c.put_identifiers.ensures.1)

pub returns-in-Err : goal.returns-in-Err
returns-in-Err c =
    fills_err policy.ghosts.item.valid policy.ghosts.item.octets policies_apart policy_of policy_read policy_octets _ (id_ce 32) c.args.signed.now c.find_extension.result c.find_extension.ensures.absent c.find_extension.ensures.found _ c.in-Err.is
    (λ v inner small r octets e l. (
    let short = contents_short Sequence v octets small e in
    elim (r.complete (record { octets = record { ref_ptr = (0, 0); now = octets }; of = record {}; short = short; checked = ∣ l ∣₁ }) small (∣ l ∣₁, short) e)
    [ inl never ↦ (let f : false ≡ true = never in cc) | inr lacks ↦ (let f : false ≡ true = lacks.0 in cc) ]))
    c.args.room.now c.args.room.now c.args.start
