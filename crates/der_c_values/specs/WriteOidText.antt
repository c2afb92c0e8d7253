-- The result of `der_write_oid_text` (`WritesOidText`).
use Rattle.std.specs.Prelude.{ℕ, List}
use Rattle.der_core.specs.Writer.{WriterState}
use Rattle.der_c_core.specs.WriterCalls.{WritesElement}
use Rattle.der_c_core.specs.declared.error.DerError.{DerError}
use Rattle.der_c_values.specs.OidFromText.{IsEncoded}
use Rattle.der_c_values.specs.WriteCalls.{RefusesNoValue}

-- an element is written with the contents of which the text is the dotted notation; or there is an
-- error, because there are no such contents, or they are too large
pub data WritesOidText (text : List ℕ) (word : ℕ) (s : WriterState) (result : DerError)
    (t : WriterState) : Type 0 where
  of_text : (octets : List ℕ) → IsEncoded text octets → WritesElement word octets s result t
      → WritesOidText text word s result t
  no_text : RefusesNoValue word s result t → WritesOidText text word s result t
