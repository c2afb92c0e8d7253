-- Rules for parts of the values of extensions: the qualifiers of policies (RFC 5280, 4.2.1.4;
-- `PolicyKeeps`), the fields of distribution points (4.2.1.13; `PointKeeps`), the bases of subtrees
-- (4.2.1.10; `BasesKeep`).
use Rattle.std.specs.Prelude.{ℕ, true, List}
use Rattle.der.specs.Prelude.{Ia5String, Sequence, Tag}
use Rattle.der_asn1.specs.ContextSpecific.{context_tag}
use Rattle.x509_lint.specs.Elements.{EachOfSequence}
use Rattle.x509_lint.specs.Parts.{PartKeeps}
use Rattle.x509_lint.specs.Tests.{EachKeeps, GuardKeeps, InsideKeeps}
use Rattle.x509_lint.specs.declared.base_rule.BaseRule.{BaseRule}
use Rattle.x509_lint.specs.declared.form_rule.FormRule.TheVariants as form
use Rattle.x509_lint.specs.declared.identifier.Identifier.TheVariants.{CpsPointer, UserNotice}
use Rattle.x509_lint.specs.declared.part_test.PartTest.TheVariants as part
use Rattle.x509_lint.specs.declared.point_rule.PointRule.{PointRule}
use Rattle.x509_lint.specs.declared.point_rule.PointRule.TheVariants as point
use Rattle.x509_lint.specs.declared.policy_rule.PolicyRule.{PolicyRule}
use Rattle.x509_lint.specs.declared.policy_rule.PolicyRule.TheVariants as policy

-- each element inside of a SEQUENCE that is inside of a SEQUENCE: each qualifier of a policy, or each
-- extension of an entry
abbrev pub InnerKeeps : (Tag → List ℕ → Type 0) → Tag → List ℕ → Type 0
InnerKeeps P = InsideKeeps (InsideKeeps P Sequence) Sequence

-- a qualifier that is a user notice: each of its fields keeps a test
abbrev pub NoticeKeeps : (Tag → List ℕ → Type 0) → Tag → List ℕ → Type 0
NoticeKeeps P = GuardKeeps (PartKeeps (part.Other UserNotice)) (InsideKeeps P Sequence)

-- the policies of a certificatePolicies keep a rule. Of the text of a notice RFC 6818 says (3):
-- "Conforming CAs MUST NOT encode explicitText as IA5String"
abbrev pub PolicyKeeps : PolicyRule → List ℕ → Type 0
PolicyKeeps policy.Qualifiers v =
    EachOfSequence (GuardKeeps (PartKeeps part.NotAnyPolicy) (InnerKeeps (PartKeeps part.Qualifier)))
    v
PolicyKeeps policy.TextTypes v =
    EachOfSequence (InnerKeeps (NoticeKeeps (PartKeeps (part.NotTagged Ia5String)))) v
PolicyKeeps policy.TextLengths v =
    EachOfSequence (InnerKeeps (NoticeKeeps (PartKeeps part.NoticeText))) v
PolicyKeeps policy.Pointers v =
    EachOfSequence (InnerKeeps (GuardKeeps (PartKeeps (part.Other CpsPointer)) (PartKeeps part.Pointer)))
    v

-- the distribution points of a list keep a rule: the field distributionPoint has the tag [0], and in
-- it fullName [0] and nameRelativeToCRLIssuer [1]; cRLIssuer has the tag [2], and a directoryName [4]
abbrev pub PointKeeps : PointRule → List ℕ → Type 0
PointKeeps point.Scheme v =
    EachOfSequence (EachKeeps (InsideKeeps (InsideKeeps (PartKeeps (part.Form form.Scheme))
    (context_tag true 0)) (context_tag true 0))) v
PointKeeps point.IssuerName v =
    EachOfSequence (EachKeeps (InsideKeeps (PartKeeps (part.Tagged (context_tag true 4)))
    (context_tag true 2))) v
PointKeeps point.OneIssuer v =
    EachOfSequence (GuardKeeps (InsideKeeps (PartKeeps (part.NotTagged (context_tag true 1)))
    (context_tag true 0)) (PartKeeps (part.SingleIn (context_tag true 2)))) v

-- the bases of the subtrees of a nameConstraints keep a rule
abbrev pub BasesKeep : BaseRule → List ℕ → Type 0
BasesKeep rule v = EachOfSequence (EachKeeps (InsideKeeps (PartKeeps (part.Base rule)) Sequence)) v
