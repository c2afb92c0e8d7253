-- The list of all rules for revocation lists: each rule has a place of its own (`list_place_of`), and
-- there are as many places.
use Rattle.std.specs.Prelude.{ℕ}
use Rattle.x509_lint.specs.declared.attribute_rule.AttributeRule.TheVariants as attribute
use Rattle.x509_lint.specs.declared.list_rule.ListRule.{ListRule}
use Rattle.x509_lint.specs.declared.list_rule.ListRule.TheVariants as of
use Rattle.x509_lint.specs.declared.name_rule.NameRule.TheVariants as name

-- the place of a rule in the list, counted from 0: 30 rules have the places 0 to 29
abbrev pub list_place_of : ListRule → ℕ
list_place_of of.SameAlgorithms = 0
list_place_of of.Version = 1
list_place_of of.IssuerPresent = 2
list_place_of (of.Issuer (name.Levels)) = 3
list_place_of (of.Issuer (name.Attributes (attribute.Length))) = 4
list_place_of (of.Issuer (name.Attributes (attribute.Characters))) = 5
list_place_of (of.Issuer (name.Attributes (attribute.StringType))) = 6
list_place_of of.TimeForms = 7
list_place_of of.NextUpdate = 8
list_place_of of.RevokedPresent = 9
list_place_of of.ExtensionPresent = 10
list_place_of of.Instances = 11
list_place_of of.KeyIdentifier = 12
list_place_of of.Number = 13
list_place_of of.NumberNotCritical = 14
list_place_of of.DeltaCritical = 15
list_place_of of.PointCritical = 16
list_place_of of.FreshestNotCritical = 17
list_place_of of.EntryTimes = 18
list_place_of of.EntryVersion = 19
list_place_of of.NumberLength = 20
list_place_of of.PointKinds = 21
list_place_of of.PointNotEmpty = 22
list_place_of of.FreshestOfComplete = 23
list_place_of of.AccessNotCritical = 24
list_place_of of.ReasonNotCritical = 25
list_place_of of.RemovedInChanges = 26
list_place_of of.DateNotCritical = 27
list_place_of of.IssuerCritical = 28
list_place_of of.IssuerOfIndirect = 29
