-- The result of `der_compare` (`Compares`): both inputs are one element (`IsOneElement`), or the
-- error of one that is not (`RefusesWhole`, `RefusesEither`).
use Rattle.std.specs.Prelude.{◌≡◌, ℕ, ◌+◌, ◌^◌, ◌≤◌, ◌⊎◌, ℤ, pos, negsuc, List, length, Ok, Err}
use Rattle.std.specs.declared.cmp.Ordering.{Ordering}
use Rattle.std.specs.declared.cmp.Ordering.TheVariants.{Less, Equal, Greater}
use Rattle.der_base.specs.Length.{number}
use Rattle.der_base.specs.Error.{error_of_kind}
use Rattle.der_base.specs.HeaderGrammar.{Head, HeadNext, HeaderFault}
use Rattle.der_base.specs.ScanGrammar.{BodyFault}
use Rattle.der_base.specs.Order.{byte_order}
use Rattle.der_base.specs.declared.error.Error.{Error}
use Rattle.der_base.specs.declared.error.ErrorKind.TheVariants.{Overflow}
use Rattle.der_base.specs.declared.encoding_rules.EncodingRules.TheVariants.{Der}
use Rattle.der_core.specs.ReaderState.{ReaderState, initial_state}
use Rattle.der_core.specs.Outcome.{Gives}
use Rattle.der_core.specs.Reader.{read_slice_outcome, finish_answer}
use Rattle.der_core.specs.Decode.{Passes, IsRefusedBy}
use Rattle.der_core.specs.Header.{head_of, HeaderNext}
use Rattle.der_core.specs.declared.header.Header.{Header}
use Rattle.der_c_core.specs.ErrorCode.{no_error, error_code}
use Rattle.der_c_core.specs.declared.error.DerError.{DerError}

-- the octets are exactly one element under DER: a header and the number of octets that its length
-- gives
pub record IsOneElement (octets : List ℕ) : Type 0 where
  pub head : Head
  pub count : ℕ
  pub next : HeadNext head Der octets count
  pub whole : count + number head.length ≡ length octets

-- why the octets are not exactly one element: there are too many for a length; the header has a
-- fault; the contents are truncated; or octets are left after the element
pub data RefusesWhole (octets : List ℕ) (e : Error) : Type 0 where
  too_long : 2 ^ 32 ≤ length octets → e ≡ error_of_kind Overflow → RefusesWhole octets e
  no_header : (t : ReaderState)
      → IsRefusedBy (HeaderFault BodyFault) (initial_state Der octets) e t → RefusesWhole octets e
  cut : (h : Header) (u t : ReaderState) → Passes (HeaderNext h) (initial_state Der octets) u
      → Gives (read_slice_outcome (number (head_of h).length)) u (Err e) t → RefusesWhole octets e
  left_over : (h : Header) (u t : ReaderState) (contents : List ℕ)
      → Passes (HeaderNext h) (initial_state Der octets) u
      → Gives (read_slice_outcome (number (head_of h).length)) u (Ok contents) t
      → finish_answer t ≡ Err e → RefusesWhole octets e

-- the first is not exactly one element; or the first is, and the second is not
abbrev pub RefusesEither : List ℕ → List ℕ → Error → Type 0
RefusesEither first second e =
    RefusesWhole first e ⊎ (IsOneElement first × RefusesWhole second e)

abbrev pub order_number : Ordering → ℤ
order_number Less = negsuc 0
order_number Equal = pos 0
order_number Greater = pos 1

-- both are one element, and `new` is their byte order; or one is not, and the error is returned
pub data Compares (first second : List ℕ) (result : DerError) (old new : ℤ) : Type 0 where
  compared : IsOneElement first → IsOneElement second → result ≡ no_error
      → new ≡ order_number (byte_order first second) → Compares first second result old new
  refused : (e : Error) → RefusesEither first second e → result ≡ error_code e → new ≡ old
      → Compares first second result old new
