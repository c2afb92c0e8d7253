-- The contents octets of values as C sees them: `boolean_contents`, `span_contents`,
-- `bits_contents` and `null_contents`. Those of numbers are `integer_octets` and `signed_octets`.
use Rattle.std.specs.Prelude.{ℕ, Bool, true, false, List, [], ◌∷◌}
use Rattle.der_c_core.specs.declared.span.DerSpan.{DerSpan}
use Rattle.der_c_core.specs.declared.bits.DerBits.{DerBits}

-- one octet (X.690 8.2.2, 11.1)
abbrev pub boolean_contents : Bool → List ℕ
boolean_contents false = 0 ∷ []
boolean_contents true = 255 ∷ []

-- the octets themselves
abbrev pub span_contents : DerSpan → List ℕ
span_contents v = v.octets.now

-- the number of unused bits, and the octets that hold the bits (X.690 8.6.2)
abbrev pub bits_contents : DerBits → List ℕ
bits_contents v = v.unused ∷ v.octets.now

-- no octets (X.690 8.8.2)
abbrev pub null_contents : Unit {0} → List ℕ
null_contents v = []
