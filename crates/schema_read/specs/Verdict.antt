-- What octets are: an encoding by DER, by BER alone, or by neither. `holds` says which rules hold.
use Rattle.std.specs.Prelude.{Bool, true, false}
use Rattle.der_base.specs.declared.encoding_rules.EncodingRules.{EncodingRules}
use Rattle.der_base.specs.declared.encoding_rules.EncodingRules.TheVariants as rules
use Rattle.schema_read.specs.declared.verdict.Verdict.{Verdict}
use Rattle.schema_read.specs.declared.verdict.Verdict.TheVariants.{Der, Ber, Neither}

abbrev pub holds : EncodingRules → Verdict → Bool
holds rules.Der Der = true
holds rules.Der Ber = false
holds rules.Der Neither = false
holds rules.Ber Der = true
holds rules.Ber Ber = true
holds rules.Ber Neither = false

-- the verdict on two parts together
abbrev pub worst : Verdict → Verdict → Verdict
worst Der v = v
worst Ber Der = Ber
worst Ber Ber = Ber
worst Ber Neither = Neither
worst Neither v = Neither
