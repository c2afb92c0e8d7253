-- The C form of an error of reading a value (`Locates`): where the next element is cut, it says where
-- the element ends, as every call on elements does (`IsCut`, `IsNotCut`).
use Rattle.std.specs.Prelude.{◌≡◌, ℕ, ◌^◌, ◌<◌, ◌≤◌, Bool, true, false, List, length, Ok, Err}
use Rattle.der_base.specs.Length.{number}
use Rattle.der_base.specs.Error.{kind_of}
use Rattle.der_base.specs.HeaderGrammar.{HeaderFault}
use Rattle.der_base.specs.ScanGrammar.{BodyFault}
use Rattle.der_base.specs.declared.encoding_rules.EncodingRules.TheVariants.{Der}
use Rattle.der_base.specs.declared.error.Error.{Error}
use Rattle.der_base.specs.declared.error.ErrorKind.{ErrorKind}
use Rattle.der_base.specs.declared.error.ErrorKind.TheVariants.{Incomplete}
use Rattle.der_core.specs.ReaderState.{ReaderState, initial_state}
use Rattle.der_core.specs.Outcome.{Gives}
use Rattle.der_core.specs.Reader.{read_slice_outcome}
use Rattle.der_core.specs.Decode.{Passes, IsRefusedBy}
use Rattle.der_core.specs.Header.{head_of, HeaderNext}
use Rattle.der_core.specs.declared.header.Header.{Header}
use Rattle.der_c_core.specs.ErrorCode.{error_code}
use Rattle.der_c_core.specs.declared.error.DerError.{DerError}

-- whether an error says that octets are missing
abbrev pub is_incomplete : ErrorKind → Bool
is_incomplete (Incomplete expected actual) = true
is_incomplete _ = false

-- the next octets are a header, and octets of its contents are missing, with this error
pub record IsCut (s : ReaderState) (f : Error) : Type 0 where
  pub header : Header
  pub contents : ReaderState
  pub left : ReaderState
  pub passed : Passes (HeaderNext header) s contents
  pub missing : Gives (read_slice_outcome (number (head_of header).length)) contents (Err f) left
  pub incomplete : is_incomplete (kind_of f) ≡ true

-- the next octets are no header; or the contents are there; or they are longer than any input
pub data IsNotCut (s : ReaderState) : Type 0 where
  no_header : (f : Error) (t : ReaderState) → IsRefusedBy (HeaderFault BodyFault) s f t → IsNotCut s
  there : (h : Header) (u t : ReaderState) (octets : List ℕ) → Passes (HeaderNext h) s u
      → Gives (read_slice_outcome (number (head_of h).length)) u (Ok octets) t → IsNotCut s
  too_long : (h : Header) (u t : ReaderState) (f : Error) → Passes (HeaderNext h) s u
      → Gives (read_slice_outcome (number (head_of h).length)) u (Err f) t
      → is_incomplete (kind_of f) ≡ false → IsNotCut s

-- the error is that of the next element, if octets are missing and it is cut; else it is as it was
pub data Locates (s : ReaderState) (e : Error) (result : DerError) : Type 0 where
  cut : (f : Error) → is_incomplete (kind_of e) ≡ true → IsCut s f → result ≡ error_code f
      → Locates s e result
  not_cut : IsNotCut s → result ≡ error_code e → Locates s e result
  other : is_incomplete (kind_of e) ≡ false → result ≡ error_code e → Locates s e result

-- the same for a value that all octets are, under DER; there may be too many for a reader
pub record LocatesIn (octets : List ℕ) (e : Error) (result : DerError) : Type 0 where
  pub short : length octets < 2 ^ 32 → Locates (initial_state Der octets) e result
  pub long : 2 ^ 32 ≤ length octets → result ≡ error_code e
