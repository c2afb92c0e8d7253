-- The contents octets of a universal type under DER, beside others of the same value under BER.
use Rattle.std.specs.Prelude.{◌≡◌, ◌≢◌, ℕ, List, [], ◌∷◌}
use Rattle.ber.specs.declared.universal.Universal.{Universal}
use Rattle.ber.specs.declared.universal.Universal.TheVariants as types
use Rattle.schema_write.specs.Instants.{IsUtcTimeInDer}
use Rattle.schema_write.specs.SameBits.{AreSameBits}
use Rattle.schema_write.specs.declared.rewriting.Rewriting.{Rewriting}
use Rattle.schema_write.specs.declared.rewriting.Rewriting.TheVariants.{Boolean, Bits, UtcTime, GeneralizedTime, Same}

-- how they change
abbrev pub rewriting_of : Universal → Rewriting
rewriting_of types.Boolean = Boolean
rewriting_of types.BitString = Bits
rewriting_of types.UtcTime = UtcTime
rewriting_of types.GeneralizedTime = GeneralizedTime
rewriting_of _ = Same

-- FALSE stays 0, and TRUE is FF (11.1)
pub record IsTruth (text v : List ℕ) : Type 0 where
  pub no : text ≡ 0 ∷ [] → v ≡ 0 ∷ []
  pub yes : (octet : ℕ) → text ≡ octet ∷ [] → octet ≢ 0 → v ≡ 255 ∷ []

-- these contents octets are rewritten as those, where so many bits have names; nothing is said of a GeneralizedTime
abbrev pub IsRewritten : Rewriting → ℕ → List ℕ → List ℕ → Type 0
IsRewritten Boolean names text v = IsTruth text v
IsRewritten Bits names text v = AreSameBits names text v
IsRewritten UtcTime names text v = IsUtcTimeInDer text v
IsRewritten GeneralizedTime names text v = Unit {0}
IsRewritten Same names text v = v ≡ text
