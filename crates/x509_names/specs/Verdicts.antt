-- What a nameConstraints says of a name (RFC 5280, 4.2.1.10; 6.1.3 (b) and (c)): `HasVerdict`; and of
-- the names of a list: `HaveVerdict`.
use Rattle.std.specs.Prelude.{◌&&◌, ◌||◌, ◌⊎◌, ℕ, not, List, [], Option, Some, None, if◌then◌else◌}
use Rattle.der_asn1.specs.SequenceOf.{IsListOf}
use Rattle.der_asn1.specs.declared.fields.implicit.Implicit.{Implicit}
use Rattle.x509.specs.contracts.asn1.general_name.GeneralNameItem.TheImpl as general
use Rattle.x509.specs.declared.asn1.general_name.GeneralName.{GeneralName}
use Rattle.x509.specs.declared.asn1.general_subtree.GeneralSubtree.{GeneralSubtree}
use Rattle.x509.specs.declared.asn1.general_subtrees.GeneralSubtrees.{GeneralSubtrees}
use Rattle.x509.specs.declared.asn1.name_constraints.NameConstraints.{NameConstraints}
use Rattle.x509_names.specs.Constraints.{AreSubtrees, Concerns, Contains, ContainsPart, IsUnclear}
use Rattle.x509_names.specs.Judgements.{AreJudged}
use Rattle.x509_names.specs.Lists.{SomeItem}
use Rattle.x509_names.specs.declared.matching.tally.Tally.{Tally}
use Rattle.x509_names.specs.declared.matching.verdict.Verdict.{Verdict}
use Rattle.x509_names.specs.declared.matching.verdict.Verdict.TheVariants.{Excluded, Outside, Permitted, Unclear}

-- the octets of a list of subtrees; of a list that is absent none
abbrev pub subtrees_octets : {N : ℕ} → Option (Implicit GeneralSubtrees N) → List ℕ
subtrees_octets None = []
subtrees_octets (Some s) = s.0.items.octets.now

abbrev pub permitted_octets : NameConstraints → List ℕ
permitted_octets c = subtrees_octets c.permitted_subtrees.0

abbrev pub excluded_octets : NameConstraints → List ℕ
excluded_octets c = subtrees_octets c.excluded_subtrees.0

-- the name can be compared with each subtree of its form
abbrev pub AreClear : List GeneralSubtree → List GeneralSubtree → GeneralName → Type 0
AreClear permitted excluded n =
    (SomeItem (IsUnclear n) permitted → ⊥) × (SomeItem (IsUnclear n) excluded → ⊥)

-- what permitted and excluded subtrees say of a name: a permitted subtree has to contain all names
-- for which it stands, and an excluded one none of them
abbrev pub IsVerdict : List GeneralSubtree → List GeneralSubtree → GeneralName → Verdict → Type 0
IsVerdict permitted excluded n Unclear =
    SomeItem (IsUnclear n) permitted ⊎ SomeItem (IsUnclear n) excluded
IsVerdict permitted excluded n Outside =
    AreClear permitted excluded n × SomeItem (Concerns n) permitted
    × (SomeItem (Contains n) permitted → ⊥)
IsVerdict permitted excluded n Excluded =
    AreClear permitted excluded n
    × (SomeItem (Concerns n) permitted → SomeItem (Contains n) permitted)
    × SomeItem (ContainsPart n) excluded
IsVerdict permitted excluded n Permitted =
    AreClear permitted excluded n
    × (SomeItem (Concerns n) permitted → SomeItem (Contains n) permitted)
    × (SomeItem (ContainsPart n) excluded → ⊥)

-- what a nameConstraints says of a name
pub record HasVerdict (c : NameConstraints) (n : GeneralName) (v : Verdict) : Type 0 where
  pub permitted : AreSubtrees (permitted_octets c)
  pub excluded : AreSubtrees (excluded_octets c)
  pub is : IsVerdict permitted.items excluded.items n v

-- the verdict by the answers for both lists
abbrev pub verdict_of : Tally → Tally → Verdict
verdict_of permitted excluded =
    if permitted.unclear || excluded.unclear then Unclear
    else if permitted.concerned && not permitted.within then Outside
    else if excluded.partly then Excluded
    else Permitted

-- the names of a list with these octets
abbrev pub AreNames : List ℕ → Type 0
AreNames octets = IsListOf general.ghosts.item.valid general.ghosts.item.octets octets

-- what a nameConstraints says of the names of a list
pub record HaveVerdict (c : NameConstraints) (octets : List ℕ) (v : Verdict) : Type 0 where
  pub names : AreNames octets
  pub are : AreJudged (HasVerdict c) names.items v
