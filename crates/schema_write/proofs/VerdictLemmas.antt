-- What a verdict says of octets.
use Rattle.std.proofs.Common.{◌≡◌, ◌↔◌, ℕ, true, List, None}
use Rattle.der_base.specs.declared.encoding_rules.EncodingRules.{EncodingRules}
use Rattle.der_base.specs.declared.encoding_rules.EncodingRules.TheVariants.{Der, Ber}
use Rattle.schema_types.specs.Table.{table_in}
use Rattle.schema_read.specs.Encoding.{IsDer, IsBer}
use Rattle.schema_read.specs.Types.{types_in}
use Rattle.schema_read.specs.Value.{IsValue}
use Rattle.schema_read.specs.Verdict.{holds}
use Rattle.schema_read.specs.declared.verdict.Verdict.{Verdict}

-- it is exact
abbrev pub IsExact : List ℕ → ℕ → List ℕ → Verdict → Type 0
IsExact table node octets v =
    (rules : EncodingRules) → (holds rules v ≡ true) ↔ IsValue (types_in table) 64 rules None node octets

pub der_says : (table : List ℕ) (node : ℕ) (octets : List ℕ) (v : Verdict) → IsExact table node octets v → (holds Der v ≡ true) ↔ IsDer (table_in table) node octets
unfolding types_in
der_says table node octets v exact = exact Der

pub ber_says : (table : List ℕ) (node : ℕ) (octets : List ℕ) (v : Verdict) → IsExact table node octets v → (holds Ber v ≡ true) ↔ IsBer (table_in table) node octets
unfolding types_in
ber_says table node octets v exact = exact Ber
