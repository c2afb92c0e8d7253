-- What tests of the elements inside of an element say (`GroupKeeps`).
use Rattle.std.specs.Prelude.{ℕ, true, List}
use Rattle.der.specs.Prelude.{Tag}
use Rattle.der_asn1.specs.ContextSpecific.{context_tag}
use Rattle.x509_lint.specs.Elements.{EachElement}
use Rattle.x509_lint.specs.Parts.{PartKeeps}
use Rattle.x509_lint.specs.declared.form_rule.FormRule.TheVariants.{Scheme}
use Rattle.x509_lint.specs.declared.group_test.GroupTest.{GroupTest}
use Rattle.x509_lint.specs.declared.group_test.GroupTest.TheVariants.{Mapping, Point, Location, Subtrees}
use Rattle.x509_lint.specs.declared.part_test.PartTest.TheVariants as part

-- the elements inside of one keep what a test demands: no policy of a mapping is anyPolicy (RFC
-- 5280, 4.2.1.5); a distribution point has one of the fields distributionPoint, with the tag [0],
-- and cRLIssuer, with the tag [2] (4.2.1.13); a subtree has a base, and neither minimum nor maximum
-- (4.2.1.10); the location of an access description that is a URI has a scheme (4.2.2)
abbrev pub GroupKeeps : GroupTest → Tag → List ℕ → Type 0
GroupKeeps Mapping t c = EachElement (PartKeeps part.NotAnyPolicy) c
GroupKeeps Point t c =
    EachElement (PartKeeps (part.NeitherTagged (context_tag true 0) (context_tag true 2))) c → ⊥
GroupKeeps Location t c = EachElement (PartKeeps (part.Form Scheme)) c
GroupKeeps Subtrees t c = EachElement (PartKeeps part.Single) c
