-- The encodings of the values of a type, with at most 64 levels of nesting: under DER, and under BER.
use Rattle.std.specs.Prelude.{ℕ, List, None}
use Rattle.der_base.specs.declared.encoding_rules.EncodingRules.TheVariants.{Der, Ber}
use Rattle.schema_types.specs.Table.{Table}
use Rattle.schema_read.specs.Value.{IsValue}

abbrev pub IsDer : Table → ℕ → List ℕ → Type 0
IsDer t node octets = IsValue t 64 Der None node octets

abbrev pub IsBer : Table → ℕ → List ℕ → Type 0
IsBer t node octets = IsValue t 64 Ber None node octets
