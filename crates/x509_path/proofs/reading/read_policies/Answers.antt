use Rattle.std.proofs.Common.{◌⊎◌, ◌<◌, ◌+◌, arith, inl, inr, length, subst}
use Rattle.x509_path.proofs.PolicyCountLemmas.{few_more, too_few}
use Rattle.x509_path.proofs.PolicyNoteLemmas.{notes_all, notes_at, unreadable_at}
use Rattle.x509_path.specs.CertificateFacts.{part}
use Rattle.x509_path.specs.PolicyFactsOf.{ArePolicyFacts}
use Rattle.x509_path.specs.PolicyNotes.{IsNoteAfter}
use Rattle.x509_path.specs.declared.certificate.PathCertificate.{PathCertificate}
use Rattle.path_rules.specs.declared.policy_facts.PolicyFacts.{PolicyFacts}
use Rattle.x509_path.proofs.reading.read_policies.Goals as goal

pub loop-at-init : goal.loop-at-init
loop-at-init c = (omega arith, omega arith, tt, λ facts are. (omega arith, omega arith))

pub note_of-requires-clause-policies : goal.note_of-requires-clause-policies
note_of-requires-clause-policies c = c.loop-at.invariant.0

pub note_of-requires-clause-mappings : goal.note_of-requires-clause-mappings
note_of-requires-clause-mappings c = c.loop-at.invariant.1

pub returns-then-notes-path : goal.returns-then-notes-path
returns-then-notes-path c facts are = inr (inr c.if-notes-path.true)

pub returns-in-NoRoom : goal.returns-in-NoRoom
returns-in-NoRoom c facts are =
    too_few (length c.note_of.new.policies) (length c.note_of.new.mappings) (length c.loop-at.notes) c.loop-at.last.policies_to c.loop-at.last.mappings_to c.args.path.now c.loop-at.at c.index-path-at.result c.loop-at-test.true c.loop-at.invariant.3
    (λ f is.
    (let none = subst (λ (x : PathCertificate). (g : PolicyFacts) → ArePolicyFacts (part x) g → (length c.loop-at.policies < c.loop-at.last.policies_to + length g.policies.now) ⊎ (length c.loop-at.mappings < c.loop-at.last.mappings_to + length g.mappings.now)) c.index-path-at.is c.in-NoRoom.ensures in
    elim (none f is) [ inl less ↦ inl (omega (arith, less)) | inr less ↦ inr (omega (arith, less)) ]))
    facts are

pub returns-in-Unreadable : goal.returns-in-Unreadable
returns-in-Unreadable c =
    unreadable_at c.args.path.now c.loop-at.at c.index-path-at.result c.loop-at-test.true
    (subst (λ (x : PathCertificate). (f : PolicyFacts) → ArePolicyFacts (part x) f → ⊥) c.index-path-at.is c.in-Unreadable.ensures)

pub loop-at-preserved : goal.loop-at-preserved
loop-at-preserved c =
    let note = c.in-Read.note in
    let old = c.loop-at.policies in
    let older = c.loop-at.mappings in
    let last = c.loop-at.last in
    let after = subst (λ (x : PathCertificate). IsNoteAfter old c.note_of.new.policies older c.note_of.new.mappings last.policies_to last.mappings_to (part x) note) c.index-path-at.is c.in-Read.ensures in (
      omega (arith, after.policies.1.fits),
      omega (arith, after.mappings.1.fits),
      notes_at old c.note_of.new.policies older c.note_of.new.mappings last.policies_to last.mappings_to c.args.path.now c.loop-at.at c.index-path-at.result c.loop-at.notes c.put_note.new.notes note
          c.loop-at-test.true c.loop-at.invariant.0 c.loop-at.invariant.1 c.loop-at.invariant.2 after c.put_note.ensures.more,
      few_more old c.note_of.new.policies older c.note_of.new.mappings last.policies_to last.mappings_to c.args.path.now c.loop-at.at c.index-path-at.result note c.loop-at-test.true c.loop-at.invariant.3 after,
    )

pub returns : goal.returns
returns c = (
  omega arith,
  notes_all c.loop-at.policies c.loop-at.mappings c.loop-at.last.policies_to c.loop-at.last.mappings_to c.args.path.now c.loop-at.at c.loop-at.notes c.loop-at.auto.at-end c.loop-at-test.false c.loop-at.invariant.2,
)
