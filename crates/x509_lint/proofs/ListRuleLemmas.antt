-- Each rule for revocation lists is in the list of them.
use Rattle.std.proofs.Common.{◌≡◌, Some, refl, slice_get}
use Rattle.x509_lint.specs.ListRuleList.{list_place_of}
use Rattle.x509_lint.specs.declared.list_rule.TheConstants.{LIST_RULES}
use Rattle.x509_lint.specs.declared.attribute_rule.AttributeRule.TheVariants as attribute
use Rattle.x509_lint.specs.declared.list_rule.ListRule.{ListRule}
use Rattle.x509_lint.specs.declared.list_rule.ListRule.TheVariants as of
use Rattle.x509_lint.specs.declared.name_rule.NameRule.TheVariants as name

pub listed_of_list : (r : ListRule) → slice_get LIST_RULES (list_place_of r) ≡ Some r
listed_of_list of.SameAlgorithms = refl
listed_of_list of.Version = refl
listed_of_list of.IssuerPresent = refl
listed_of_list (of.Issuer (name.Levels)) = refl
listed_of_list (of.Issuer (name.Attributes (attribute.Length))) = refl
listed_of_list (of.Issuer (name.Attributes (attribute.Characters))) = refl
listed_of_list (of.Issuer (name.Attributes (attribute.StringType))) = refl
listed_of_list of.TimeForms = refl
listed_of_list of.NextUpdate = refl
listed_of_list of.RevokedPresent = refl
listed_of_list of.ExtensionPresent = refl
listed_of_list of.Instances = refl
listed_of_list of.KeyIdentifier = refl
listed_of_list of.Number = refl
listed_of_list of.NumberNotCritical = refl
listed_of_list of.DeltaCritical = refl
listed_of_list of.PointCritical = refl
listed_of_list of.FreshestNotCritical = refl
listed_of_list of.EntryTimes = refl
listed_of_list of.EntryVersion = refl
listed_of_list of.NumberLength = refl
listed_of_list of.PointKinds = refl
listed_of_list of.PointNotEmpty = refl
listed_of_list of.FreshestOfComplete = refl
listed_of_list of.AccessNotCritical = refl
listed_of_list of.ReasonNotCritical = refl
listed_of_list of.RemovedInChanges = refl
listed_of_list of.DateNotCritical = refl
listed_of_list of.IssuerCritical = refl
listed_of_list of.IssuerOfIndirect = refl
