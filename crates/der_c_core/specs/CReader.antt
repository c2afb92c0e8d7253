-- The state of a C reader as a reader of `der_core` (`reader_state`), and its rules (`rules_of`).
use Rattle.std.specs.Prelude.{Bool, true, false, Result, Ok, Err}
use Rattle.der_base.specs.declared.error.Error.{Error}
use Rattle.der_c_core.specs.ErrorCode.{no_error, error_code}
use Rattle.der_c_core.specs.declared.error.DerError.{DerError}
use Rattle.der_base.specs.declared.encoding_rules.EncodingRules.{EncodingRules}
use Rattle.der_base.specs.declared.encoding_rules.EncodingRules.TheVariants.{Ber, Der}
use Rattle.der_core.specs.ReaderState.{ReaderState}
use Rattle.der_c_core.specs.declared.reader.DerReader.{DerReader}

abbrev pub rules_of : Bool → EncodingRules
rules_of true = Ber
rules_of false = Der

abbrev pub reader_state : DerReader → ReaderState
reader_state r =
    record {
      input = r.octets.now;
      rules = rules_of r.ber;
      end = r.end;
      position = r.position;
      depth = r.depth;
      failed = r.failed;
      keeps_failure = true;
    }

-- the C form of a result, without its value
abbrev pub answer_code : {A : Type 0} → Result A Error → DerError
answer_code (Ok _) = no_error
answer_code (Err e) = error_code e
