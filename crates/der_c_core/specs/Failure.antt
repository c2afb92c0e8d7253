-- The result of a call that fails, and the reader after it (`Fails`), with the errors of a header
-- (`RefusesHeader`) and of contents that are cut (`RefusesContents`).
use Rattle.std.specs.Prelude.{◌≡◌, ℕ, Err}
use Rattle.der_base.specs.HeaderGrammar.{HeaderFault}
use Rattle.der_base.specs.ScanGrammar.{BodyFault}
use Rattle.der_base.specs.declared.error.Error.{Error}
use Rattle.der_core.specs.ReaderState.{ReaderState, stopped_state}
use Rattle.der_core.specs.Outcome.{Gives}
use Rattle.der_core.specs.Reader.{read_slice_outcome}
use Rattle.der_core.specs.Decode.{IsRefusedBy}
use Rattle.der_c_core.specs.ErrorCode.{error_code}
use Rattle.der_c_core.specs.declared.error.DerError.{DerError}

-- an error that `Refuses` allows is returned; the reader is where this error leaves it, and has
-- failed
pub record Fails (Refuses : Error → ReaderState → Type 0) (result : DerError) (t : ReaderState)
    : Type 0 where
  pub error : Error
  pub left : ReaderState
  pub refused : Refuses error left
  pub reported : result ≡ error_code error
  pub stopped : t ≡ stopped_state left left.position

-- the reader had failed, or the next octets are not a header
abbrev pub RefusesHeader : ReaderState → Error → ReaderState → Type 0
RefusesHeader s = IsRefusedBy (HeaderFault BodyFault) s

-- fewer than n octets are left
abbrev pub RefusesContents : ℕ → ReaderState → Error → ReaderState → Type 0
RefusesContents n s e t = Gives (read_slice_outcome n) s (Err e) t
