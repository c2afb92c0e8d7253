-- Lemmas on the first attribute of a name that breaks a rule.
use Rattle.std.proofs.Common.{ℕ, List}
use Rattle.x509_lint.proofs.FirstLemmas.{some_refutes}
use Rattle.x509.specs.CertificateLists.{AreLevels, IsAttribute, IsLevel, attribute_encoding, level_encoding, level_octets}
use Rattle.x509.specs.Firsts.{FailsFirstAt, IsFirstAt}
use Rattle.x509_lint.specs.NameChecks.{AttributeKeeps, IsFirstAttribute, LevelKeeps, NameKeeps}
use Rattle.x509.specs.declared.asn1.name.Name.{Name}
use Rattle.x509.specs.declared.asn1.relative_distinguished_name.RelativeDistinguishedName.{RelativeDistinguishedName}
use Rattle.x509_lint.specs.declared.attribute_rule.AttributeRule.{AttributeRule}
use Rattle.x509_lint.specs.declared.name_rule.NameRule.TheVariants.{Attributes}

-- a level with an attribute that breaks a rule does not keep it
level_fails : (rule : AttributeRule) (place : ℕ) (levels : List RelativeDistinguishedName) (i : ℕ)
    → IsFirstAt (LevelKeeps (Attributes rule)) (IsFirstAttribute rule place) levels i → FailsFirstAt (LevelKeeps (Attributes rule)) levels i
level_fails rule place levels i f =
    record {
      before = f.before;
      item = f.item;
      after = f.after;
      split = f.split;
      at = f.at;
      holds = f.holds;
      stops = λ keeps. some_refutes IsAttribute attribute_encoding (level_octets f.item) (λ _. AttributeKeeps rule) place f.stops keeps;
    }

-- so a name with such a level does not keep it
pub name_fails : (rule : AttributeRule) (place i : ℕ) (v : Name)
    → ((l : AreLevels v) → IsFirstAt (LevelKeeps (Attributes rule)) (IsFirstAttribute rule place) l.items i) → NameKeeps (Attributes rule) v → ⊥
name_fails rule place i v h =
    some_refutes IsLevel level_encoding v.levels.octets.now (λ _. LevelKeeps (Attributes rule)) i (λ l. level_fails rule place l.items i (h l))
