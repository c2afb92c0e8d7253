use Rattle.std.proofs.Common.{inl, subst}
use Rattle.x509_names.specs.Subjects.{IsMailVerdict}
use Rattle.x509_names.proofs.matching.subject.attribute_verdict.Goals as goal

pub returns : goal.returns
returns c =
    inl (
      c.is_email_address.ensures.0 c.if-not-is_email_address.false,
      subst (λ o. IsMailVerdict c.args.constraints.now o c.mailbox_verdict.result) c.mailbox_of.ensures c.mailbox_verdict.ensures,
    )
