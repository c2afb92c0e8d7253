-- The result of scanning indefinite-length contents in C (`ScansBody`).
use Rattle.std.specs.Prelude.{◌≡◌, ℕ, true, false}
use Rattle.der_base.specs.Length.{number}
use Rattle.der_base.specs.Error.{error_at, error_of_kind}
use Rattle.der_base.specs.ScanGrammar.{BodyNext, BodyFault}
use Rattle.der_base.specs.declared.length.Length.{Length}
use Rattle.der_base.specs.declared.error.ErrorKind.TheVariants.{EncodingRules, Failed}
use Rattle.der_base.specs.declared.encoding_rules.EncodingRules.TheVariants.{Ber, Der}
use Rattle.der_core.specs.ReaderState.{ReaderState, reader_position, stopped_state}
use Rattle.der_core.specs.Decode.{Passes, IsRefusedBy}
use Rattle.der_c_core.specs.ErrorCode.{no_error, error_code}
use Rattle.der_c_core.specs.Failure.{Fails}
use Rattle.der_c_core.specs.declared.error.DerError.{DerError}

-- there are such contents, which are counted and consumed; or the reader had failed; or the rules
-- are DER; or the octets have a fault, which is returned
pub data ScansBody (s : ReaderState) (result : DerError) (old new : ℕ) (t : ReaderState)
    : Type 0 where
  has_failed : s.failed ≡ true → result ≡ error_code (error_at Failed (reader_position s))
      → new ≡ old → t ≡ s → ScansBody s result old new t
  not_ber : s.failed ≡ false → s.rules ≡ Der → result ≡ error_code (error_of_kind EncodingRules)
      → new ≡ old → t ≡ stopped_state s s.position → ScansBody s result old new t
  scanned : (l : Length) → s.rules ≡ Ber → Passes (BodyNext l) s t → result ≡ no_error
      → new ≡ number l → ScansBody s result old new t
  refused : s.failed ≡ false → s.rules ≡ Ber
      → Fails (λ e u. IsRefusedBy (λ rules. BodyFault) s e u) result t → new ≡ old
      → ScansBody s result old new t
