-- What is left of octets that break a rule, and where the rule stands.
use Rattle.std.specs.Prelude.{if◌then◌else◌, ℕ, List, codes, Option, Some, None}
use Rattle.schema_rules.specs.Rules.{is_of_der, section_of}
use Rattle.schema_rules.specs.declared.contents_rule.ContentsRule.{ContentsRule}
use Rattle.schema_read.specs.declared.rule.Rule.{Rule}
use Rattle.schema_read.specs.declared.rule.Rule.TheVariants as r
use Rattle.schema_read.specs.declared.verdict.Verdict.{Verdict}
use Rattle.schema_read.specs.declared.verdict.Verdict.TheVariants.{Der, Ber, Neither}

-- of a rule of contents
abbrev pub verdict_of_contents : ContentsRule → Verdict
verdict_of_contents rule = if is_of_der rule then Ber else Neither

-- those of the class "not DER" are still BER
abbrev pub verdict_of_rule : Rule → Verdict
verdict_of_rule r.LongLength = Ber
verdict_of_rule r.IndefiniteLength = Ber
verdict_of_rule r.SetOrder = Ber
verdict_of_rule r.ComponentOrder = Ber
verdict_of_rule r.DefaultEncoded = Ber
verdict_of_rule r.ConstructedString = Ber
verdict_of_rule (r.Contents rule) = verdict_of_contents rule
verdict_of_rule _ = Neither

abbrev pub verdict_of_option : Option Rule → Verdict
verdict_of_option None = Der
verdict_of_option (Some rule) = verdict_of_rule rule

-- the section that has a rule, with its standard
abbrev pub section_of_rule : Rule → List ℕ
section_of_rule r.LongLength = codes "X.690 10.1"
section_of_rule r.IndefiniteLength = codes "X.690 10.1"
section_of_rule r.SetOrder = codes "X.690 11.6"
section_of_rule r.ComponentOrder = codes "X.690 10.3"
section_of_rule r.DefaultEncoded = codes "X.690 11.5"
section_of_rule r.ConstructedString = codes "X.690 10.2"
section_of_rule r.UnusedBits = codes "X.690 8.6.4.1"
section_of_rule r.Header = codes "X.690 8.1.2, 8.1.3"
section_of_rule r.Truncated = codes "X.690 8.1.4"
section_of_rule r.EndOfContents = codes "X.690 8.1.5"
section_of_rule r.Unended = codes "X.690 8.1.5"
section_of_rule r.Form = codes "X.690 8.2 to 8.26"
section_of_rule (r.Contents rule) = section_of rule
section_of_rule r.Tag = codes "X.680 31"
section_of_rule r.Duplicate = codes "X.680 27"
section_of_rule r.Missing = codes "X.680 25, 27"
section_of_rule r.Unexpected = codes "X.690 8.1.1, 8.9.2"
section_of_rule r.ValueRange = codes "X.680 51.4"
section_of_rule r.Size = codes "X.680 51.5"
section_of_rule r.Alphabet = codes "X.680 51.7"
section_of_rule r.Unlisted = codes "X.680 20"
section_of_rule r.Depth = codes "no section"
