-- The list of all rules: each rule has a place of its own (`place_of`), and there are as many places.
use Rattle.std.specs.Prelude.{ℕ}
use Rattle.x509_lint.specs.declared.attribute_rule.AttributeRule.TheVariants as attribute
use Rattle.x509_lint.specs.declared.extension_rule.ExtensionRule.TheVariants as extension
use Rattle.x509_lint.specs.declared.form_rule.FormRule.TheVariants as form
use Rattle.x509_lint.specs.declared.name_rule.NameRule.TheVariants as name
use Rattle.x509_lint.specs.declared.pair_rule.PairRule.TheVariants as pair
use Rattle.x509_lint.specs.declared.rule.Rule.{Rule}
use Rattle.x509_lint.specs.declared.rule.Rule.TheVariants as of
use Rattle.x509_lint.specs.declared.value_rule.ValueRule.TheVariants as value
use Rattle.x509_lint.specs.declared.base_rule.BaseRule.TheVariants as base
use Rattle.x509_lint.specs.declared.point_rule.PointRule.TheVariants as point
use Rattle.x509_lint.specs.declared.policy_rule.PolicyRule.TheVariants as policy

-- the place of a rule in the list, counted from 0: 58 rules have the places 0 to 57
abbrev pub place_of : Rule → ℕ
place_of of.VersionFields = 0
place_of of.SameAlgorithms = 1
place_of of.SerialNumber = 2
place_of of.IssuerPresent = 3
place_of of.SubjectPresent = 4
place_of of.UniqueIdentifiers = 5
place_of of.AuthoritySubject = 6
place_of of.KeyIdentifier = 7
place_of of.TimeForms = 8
place_of of.TimeOrder = 9
place_of (of.Issuer (name.Levels)) = 10
place_of (of.Issuer (name.Attributes (attribute.Length))) = 11
place_of (of.Issuer (name.Attributes (attribute.Characters))) = 12
place_of (of.Issuer (name.Attributes (attribute.StringType))) = 13
place_of (of.Subject (name.Levels)) = 14
place_of (of.Subject (name.Attributes (attribute.Length))) = 15
place_of (of.Subject (name.Attributes (attribute.Characters))) = 16
place_of (of.Subject (name.Attributes (attribute.StringType))) = 17
place_of of.ExtensionPresent = 18
place_of (of.Extension (extension.Instances)) = 19
place_of (of.Extension (extension.Critical)) = 20
place_of (of.Extension (extension.NotCritical)) = 21
place_of (of.Extension (extension.NotEmpty)) = 22
place_of (of.Extension (extension.Usage)) = 23
place_of (of.Extension (extension.AuthorityCritical)) = 24
place_of (of.Extension (extension.Value (value.Contents))) = 25
place_of (of.Extension (extension.Value (value.PathLengthOfAuthority))) = 26
place_of (of.Extension (extension.Value (value.PathLength))) = 27
place_of (of.Extension (extension.Value (value.PolicyNumbers))) = 28
place_of (of.Extension (extension.Value (value.AnyPolicyNumber))) = 29
place_of (of.Extension (extension.Value (value.DistinctPolicies))) = 30
place_of (of.Extension (extension.Value (value.Mappings))) = 31
place_of (of.Extension (extension.Value (value.Points))) = 32
place_of (of.Extension (extension.Value (value.Subtrees))) = 33
place_of (of.Extension (extension.Value (value.SubtreesPresent))) = 34
place_of (of.Extension (extension.Value (value.Locations))) = 35
place_of (of.Extension (extension.Value (value.IssuerAndSerial))) = 36
place_of (of.Extension (extension.Value (value.Policies (policy.Qualifiers)))) = 37
place_of (of.Extension (extension.Value (value.Policies (policy.TextTypes)))) = 38
place_of (of.Extension (extension.Value (value.Policies (policy.TextLengths)))) = 39
place_of (of.Extension (extension.Value (value.Policies (policy.Pointers)))) = 40
place_of (of.Extension (extension.Value (value.PointFields (point.Scheme)))) = 41
place_of (of.Extension (extension.Value (value.PointFields (point.IssuerName)))) = 42
place_of (of.Extension (extension.Value (value.PointFields (point.OneIssuer)))) = 43
place_of (of.Extension (extension.Value (value.Bases (base.Domain)))) = 44
place_of (of.Extension (extension.Value (value.Bases (base.Range)))) = 45
place_of (of.Extension (extension.Value (value.Names (form.Mail)))) = 46
place_of (of.Extension (extension.Value (value.Names (form.Host)))) = 47
place_of (of.Extension (extension.Value (value.Names (form.Scheme)))) = 48
place_of (of.Extension (extension.Value (value.Names (form.Uri)))) = 49
place_of (of.Extension (extension.Value (value.Names (form.Authority)))) = 50
place_of (of.Extension (extension.Value (value.Names (form.Address)))) = 51
place_of (of.Extension (extension.Value (value.Names (form.Directory)))) = 52
place_of (of.Pair (pair.CertSignOfAuthority)) = 53
place_of (of.Pair (pair.UsageOfAuthority)) = 54
place_of (of.Pair (pair.KeyIdentifierOfAuthority)) = 55
place_of (of.Pair (pair.NameConstraintsOfAuthority)) = 56
place_of (of.Pair (pair.PathLengthOfCertSign)) = 57
