-- The result of reading a header in C (`ReadsHeader`).
use Rattle.std.specs.Prelude.{◌≡◌}
use Rattle.der_base.specs.Length.{number, is_indefinite}
use Rattle.der_base.specs.HeaderGrammar.{Head}
use Rattle.der_core.specs.ReaderState.{ReaderState}
use Rattle.der_core.specs.Decode.{Passes}
use Rattle.der_core.specs.Header.{head_of, HeaderNext}
use Rattle.der_core.specs.declared.header.Header.{Header}
use Rattle.der_c_core.specs.ErrorCode.{no_error}
use Rattle.der_c_core.specs.Failure.{Fails, RefusesHeader}
use Rattle.der_c_core.specs.TagWord.{tag_word}
use Rattle.der_c_core.specs.declared.error.DerError.{DerError}
use Rattle.der_c_core.specs.declared.header.DerHeader.{DerHeader}

abbrev pub header_record : Head → DerHeader
header_record h =
    record {
      tag = tag_word h.tag;
      length = number h.length;
      constructed = h.constructed;
      indefinite = is_indefinite h.length;
    }

-- there is a header, which is returned and consumed; or the octets have a fault, which is returned,
-- and the header is unchanged
pub data ReadsHeader (s : ReaderState) (result : DerError) (old new : DerHeader) (t : ReaderState)
    : Type 0 where
  read : (h : Header) → Passes (HeaderNext h) s t → result ≡ no_error
      → new ≡ header_record (head_of h) → ReadsHeader s result old new t
  refused : Fails (RefusesHeader s) result t → new ≡ old → ReadsHeader s result old new t
