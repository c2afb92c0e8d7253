-- Each rule is in the list of all rules.
use Rattle.std.proofs.Common.{◌≡◌, Some, refl, slice_get}
use Rattle.x509_lint.specs.RuleList.{place_of}
use Rattle.x509_lint.specs.declared.rules.TheConstants.{RULES}
use Rattle.x509_lint.specs.declared.attribute_rule.AttributeRule.TheVariants as attribute
use Rattle.x509_lint.specs.declared.extension_rule.ExtensionRule.TheVariants as extension
use Rattle.x509_lint.specs.declared.form_rule.FormRule.TheVariants as form
use Rattle.x509_lint.specs.declared.name_rule.NameRule.TheVariants as name
use Rattle.x509_lint.specs.declared.pair_rule.PairRule.TheVariants as pair
use Rattle.x509_lint.specs.declared.rule.Rule.{Rule}
use Rattle.x509_lint.specs.declared.rule.Rule.TheVariants as of
use Rattle.x509_lint.specs.declared.value_rule.ValueRule.TheVariants as value
use Rattle.x509_lint.specs.declared.base_rule.BaseRule.TheVariants as base
use Rattle.x509_lint.specs.declared.point_rule.PointRule.TheVariants as point
use Rattle.x509_lint.specs.declared.policy_rule.PolicyRule.TheVariants as policy

pub listed : (r : Rule) → slice_get RULES (place_of r) ≡ Some r
listed of.VersionFields = refl
listed of.SameAlgorithms = refl
listed of.SerialNumber = refl
listed of.IssuerPresent = refl
listed of.SubjectPresent = refl
listed of.UniqueIdentifiers = refl
listed of.AuthoritySubject = refl
listed of.KeyIdentifier = refl
listed of.TimeForms = refl
listed of.TimeOrder = refl
listed (of.Issuer (name.Levels)) = refl
listed (of.Issuer (name.Attributes (attribute.Length))) = refl
listed (of.Issuer (name.Attributes (attribute.Characters))) = refl
listed (of.Issuer (name.Attributes (attribute.StringType))) = refl
listed (of.Subject (name.Levels)) = refl
listed (of.Subject (name.Attributes (attribute.Length))) = refl
listed (of.Subject (name.Attributes (attribute.Characters))) = refl
listed (of.Subject (name.Attributes (attribute.StringType))) = refl
listed of.ExtensionPresent = refl
listed (of.Extension (extension.Instances)) = refl
listed (of.Extension (extension.Critical)) = refl
listed (of.Extension (extension.NotCritical)) = refl
listed (of.Extension (extension.NotEmpty)) = refl
listed (of.Extension (extension.Usage)) = refl
listed (of.Extension (extension.AuthorityCritical)) = refl
listed (of.Extension (extension.Value (value.Contents))) = refl
listed (of.Extension (extension.Value (value.PathLengthOfAuthority))) = refl
listed (of.Extension (extension.Value (value.PathLength))) = refl
listed (of.Extension (extension.Value (value.PolicyNumbers))) = refl
listed (of.Extension (extension.Value (value.AnyPolicyNumber))) = refl
listed (of.Extension (extension.Value (value.DistinctPolicies))) = refl
listed (of.Extension (extension.Value (value.Mappings))) = refl
listed (of.Extension (extension.Value (value.Points))) = refl
listed (of.Extension (extension.Value (value.Subtrees))) = refl
listed (of.Extension (extension.Value (value.SubtreesPresent))) = refl
listed (of.Extension (extension.Value (value.Locations))) = refl
listed (of.Extension (extension.Value (value.IssuerAndSerial))) = refl
listed (of.Extension (extension.Value (value.Policies (policy.Qualifiers)))) = refl
listed (of.Extension (extension.Value (value.Policies (policy.TextTypes)))) = refl
listed (of.Extension (extension.Value (value.Policies (policy.TextLengths)))) = refl
listed (of.Extension (extension.Value (value.Policies (policy.Pointers)))) = refl
listed (of.Extension (extension.Value (value.PointFields (point.Scheme)))) = refl
listed (of.Extension (extension.Value (value.PointFields (point.IssuerName)))) = refl
listed (of.Extension (extension.Value (value.PointFields (point.OneIssuer)))) = refl
listed (of.Extension (extension.Value (value.Bases (base.Domain)))) = refl
listed (of.Extension (extension.Value (value.Bases (base.Range)))) = refl
listed (of.Extension (extension.Value (value.Names (form.Mail)))) = refl
listed (of.Extension (extension.Value (value.Names (form.Host)))) = refl
listed (of.Extension (extension.Value (value.Names (form.Scheme)))) = refl
listed (of.Extension (extension.Value (value.Names (form.Uri)))) = refl
listed (of.Extension (extension.Value (value.Names (form.Authority)))) = refl
listed (of.Extension (extension.Value (value.Names (form.Address)))) = refl
listed (of.Extension (extension.Value (value.Names (form.Directory)))) = refl
listed (of.Pair (pair.CertSignOfAuthority)) = refl
listed (of.Pair (pair.UsageOfAuthority)) = refl
listed (of.Pair (pair.KeyIdentifierOfAuthority)) = refl
listed (of.Pair (pair.NameConstraintsOfAuthority)) = refl
listed (of.Pair (pair.PathLengthOfCertSign)) = refl
