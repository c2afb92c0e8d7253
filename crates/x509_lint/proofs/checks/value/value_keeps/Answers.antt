use Rattle.x509_lint.proofs.checks.value.value_keeps.Goals as goal

pub returns-in-DistinctPolicies : goal.returns-in-DistinctPolicies
returns-in-DistinctPolicies c = rw c.in-DistinctPolicies.is c.has_policies_once.ensures

pub returns-in-Points : goal.returns-in-Points
returns-in-Points c = rw c.in-Points.is c.has_points.ensures

pub returns-in-Subtrees : goal.returns-in-Subtrees
returns-in-Subtrees c = rw c.in-Subtrees.is c.has_subtrees.ensures

pub returns-in-SubtreesPresent : goal.returns-in-SubtreesPresent
returns-in-SubtreesPresent c = rw c.in-SubtreesPresent.is c.has_subtrees_present.ensures

pub returns-in-Locations : goal.returns-in-Locations
returns-in-Locations c = rw c.in-Locations.is c.has_locations.ensures

pub returns-in-Policies : goal.returns-in-Policies
returns-in-Policies c = rw c.in-Policies.is c.has_policies_of.ensures

pub returns-in-PointFields : goal.returns-in-PointFields
returns-in-PointFields c = rw c.in-PointFields.is c.has_points_of.ensures

pub returns-in-Bases : goal.returns-in-Bases
returns-in-Bases c = rw c.in-Bases.is c.has_bases_of.ensures
