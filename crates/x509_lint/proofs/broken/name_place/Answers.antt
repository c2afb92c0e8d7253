use Rattle.std.proofs.Common.{sym, subst}
use Rattle.x509_lint.proofs.FirstLemmas.{all_listed, some_refutes}
use Rattle.x509_lint.proofs.NamePlaceLemmas.{name_fails}
use Rattle.x509.specs.CertificateLists.{AreLevels, IsLevel, level_encoding}
use Rattle.x509.specs.Firsts.{FailsFirstAt}
use Rattle.x509_lint.specs.Lint.{IsNamePlace}
use Rattle.x509_lint.specs.NameChecks.{LevelKeeps, NameKeeps}
use Rattle.x509_lint.specs.declared.name_rule.NameRule.TheVariants.{Attributes, Levels}
use Rattle.x509_lint.specs.declared.place.Place.TheVariants.{Attribute, Level}
use Rattle.x509_lint.proofs.broken.name_place.Goals as goal

pub returns-in-Some-clause-some : goal.returns-in-Some-clause-some
returns-in-Some-clause-some c =
    let v = c.args.name.now in
    let i = c.in-Some.level in
    let first = subst (λ r. (l : AreLevels v) → FailsFirstAt (LevelKeeps r) l.items i) c.in-Levels.is c.in-Some.ensures in
    subst (λ r. (NameKeeps r v → ⊥) × IsNamePlace r v (Level i)) (sym c.in-Levels.is)
    (some_refutes IsLevel level_encoding v.levels.octets.now (λ _. LevelKeeps Levels) i first, first)

pub returns-in-Some-first_failing_attribute-clause-some :
    goal.returns-in-Some-first_failing_attribute-clause-some
returns-in-Some-first_failing_attribute-clause-some c =
    let v = c.args.name.now in
    let rule = c.in-Attributes.rule in
    let i = c.in-Some-first_failing_attribute.level in
    let j = c.in-Some-first_failing_attribute.attribute in
    let first = c.in-Some-first_failing_attribute.ensures in
    subst (λ r. (NameKeeps r v → ⊥) × IsNamePlace r v (Attribute i j)) (sym c.in-Attributes.is) (name_fails rule j i v first, first)

pub returns-in-None-first_failing_attribute-clause-none :
    goal.returns-in-None-first_failing_attribute-clause-none
returns-in-None-first_failing_attribute-clause-none c =
    let v = c.args.name.now in
    let rule = c.in-Attributes.rule in
    subst (λ r. NameKeeps r v) (sym c.in-Attributes.is)
    (all_listed IsLevel level_encoding v.levels.octets.now (λ _. LevelKeeps (Attributes rule)) v.levels.checked c.in-None-first_failing_attribute.ensures)

pub returns-in-None-clause-none : goal.returns-in-None-clause-none
returns-in-None-clause-none c =
    let v = c.args.name.now in
    all_listed IsLevel level_encoding v.levels.octets.now (λ _. LevelKeeps c.args.rule) v.levels.checked c.in-None.ensures
