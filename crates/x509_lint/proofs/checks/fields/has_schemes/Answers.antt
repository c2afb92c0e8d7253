use Rattle.std.proofs.Common.{◌≡◌, ◌↔◌, true, subst}
use Rattle.der.specs.Prelude.{Tag}
use Rattle.der_asn1.specs.ContextSpecific.{context_tag}
use Rattle.x509_lint.specs.Elements.{EachOfSequence}
use Rattle.x509_lint.specs.Parts.{PartKeeps}
use Rattle.x509_lint.specs.Tests.{EachKeeps, InsideKeeps}
use Rattle.x509_lint.specs.declared.form_rule.FormRule.TheVariants as form
use Rattle.x509_lint.specs.declared.part_test.PartTest.TheVariants as part
use Rattle.x509_lint.proofs.checks.fields.has_schemes.Goals as goal

pub returns : goal.returns
returns c =
    subst (λ (t : Tag). (c.each_of_sequence.result ≡ true) ↔ EachOfSequence (EachKeeps (InsideKeeps (InsideKeeps (PartKeeps (part.Form form.Scheme)) (context_tag true 0)) t)) c.args.value.now) c.context-2.ensures
    (subst (λ (t : Tag). (c.each_of_sequence.result ≡ true) ↔ EachOfSequence (EachKeeps (InsideKeeps (InsideKeeps (PartKeeps (part.Form form.Scheme)) t) c.context-2.result)) c.args.value.now) c.context.ensures
    (c.each_of_sequence.ensures))
