use Rattle.std.proofs.Common.{◌≡◌, ◌↔◌, true, subst}
use Rattle.der.specs.Prelude.{Tag}
use Rattle.der_asn1.specs.ContextSpecific.{context_tag}
use Rattle.x509_lint.specs.Elements.{EachOfSequence}
use Rattle.x509_lint.specs.Parts.{PartKeeps}
use Rattle.x509_lint.specs.Tests.{EachKeeps, InsideKeeps}
use Rattle.x509_lint.specs.declared.part_test.PartTest.TheVariants as part
use Rattle.x509_lint.proofs.checks.fields.has_issuer_names.Goals as goal

pub returns : goal.returns
returns c =
    subst (λ (t : Tag). (c.each_of_sequence.result ≡ true) ↔ EachOfSequence (EachKeeps (InsideKeeps (PartKeeps (part.Tagged (context_tag true 4))) t)) c.args.value.now) c.context.ensures
    (subst (λ (t : Tag). (c.each_of_sequence.result ≡ true) ↔ EachOfSequence (EachKeeps (InsideKeeps (PartKeeps (part.Tagged t)) c.context.result)) c.args.value.now) c.context-2.ensures
    (c.each_of_sequence.ensures))
