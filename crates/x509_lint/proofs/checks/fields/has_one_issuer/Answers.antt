use Rattle.std.proofs.Common.{◌≡◌, ◌↔◌, true, subst}
use Rattle.der.specs.Prelude.{Tag}
use Rattle.der_asn1.specs.ContextSpecific.{context_tag}
use Rattle.x509_lint.specs.Elements.{EachOfSequence}
use Rattle.x509_lint.specs.Parts.{PartKeeps}
use Rattle.x509_lint.specs.Tests.{GuardKeeps, InsideKeeps}
use Rattle.x509_lint.specs.declared.part_test.PartTest.TheVariants as part
use Rattle.x509_lint.proofs.checks.fields.has_one_issuer.Goals as goal

pub returns : goal.returns
returns c =
    subst (λ (t : Tag). (c.each_of_sequence.result ≡ true) ↔ EachOfSequence (GuardKeeps (InsideKeeps (PartKeeps (part.NotTagged (context_tag true 1))) (context_tag true 0)) (PartKeeps (part.SingleIn t))) c.args.value.now) c.context-3.ensures
    (subst (λ (t : Tag). (c.each_of_sequence.result ≡ true) ↔ EachOfSequence (GuardKeeps (InsideKeeps (PartKeeps (part.NotTagged t)) (context_tag true 0)) (PartKeeps (part.SingleIn c.context-3.result))) c.args.value.now) c.context-2.ensures
    (subst (λ (t : Tag). (c.each_of_sequence.result ≡ true) ↔ EachOfSequence (GuardKeeps (InsideKeeps (PartKeeps (part.NotTagged c.context-2.result)) t) (PartKeeps (part.SingleIn c.context-3.result))) c.args.value.now) c.context.ensures
    (c.each_of_sequence.ensures)))
