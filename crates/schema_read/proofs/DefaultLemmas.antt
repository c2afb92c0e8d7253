-- Values of a DEFAULT, which DER leaves out.
use Rattle.std.proofs.Common.{◌≡◌, ◌≢◌, ◌↔◌, ℕ, true, List, refl}
use Rattle.der_base.specs.declared.encoding_rules.EncodingRules.{EncodingRules}
use Rattle.der_base.specs.declared.encoding_rules.EncodingRules.TheVariants as rules
use Rattle.schema_types.specs.Table.{Table}
use Rattle.schema_types.specs.Pool.{octets_of}
use Rattle.schema_types.specs.declared.field.Field.{Field}
use Rattle.schema_types.specs.declared.presence.Presence.TheVariants.{Default}
use Rattle.schema_read.specs.Verdict.{holds}
use Rattle.schema_read.specs.Components.{IsNoDefault}
use Rattle.schema_read.specs.declared.verdict.Verdict.TheVariants.{Der, Ber}
use Rattle.schema_read.proofs.VerdictLemmas.{holds_der}

pub same_value : (t : Table) (f : Field) (x : List ℕ) → f.presence ≡ Default → x ≡ octets_of t.pool f.default → (r : EncodingRules) → (holds r Ber ≡ true) ↔ IsNoDefault r t f x
same_value t f x p e rules.Der = ((λ on. absurd (cc)), (λ other. absurd (other refl p e)))
same_value t f x p e rules.Ber = ((λ on strict. absurd (cc)), (λ other. refl))

pub other_value : (t : Table) (f : Field) (x : List ℕ) → x ≢ octets_of t.pool f.default → (r : EncodingRules) → (holds r Der ≡ true) ↔ IsNoDefault r t f x
other_value t f x ne r = ((λ on strict p. ne), (λ other. holds_der r))
