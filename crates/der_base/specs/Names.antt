-- Parsing of names, compared octet by octet: `mode_of_name` and `rules_of_name`.
use Rattle.std.specs.Prelude.{ℕ, ◌||◌, Bool, List, codes, Result, Ok, Err, if◌then◌else◌}
use Rattle.std.specs.Str.{bytes_eq}
use Rattle.der_base.specs.Error.{error_of_kind}
use Rattle.der_base.specs.declared.error.Error.{Error}
use Rattle.der_base.specs.declared.error.ErrorKind.TheVariants.{EncodingRules as EncodingRulesUnknown, TagModeUnknown}
use Rattle.der_base.specs.declared.tag.mode.TagMode.{TagMode}
use Rattle.der_base.specs.declared.tag.mode.TagMode.TheVariants.{Explicit, Implicit}
use Rattle.der_base.specs.declared.encoding_rules.EncodingRules.{EncodingRules}
use Rattle.der_base.specs.declared.encoding_rules.EncodingRules.TheVariants.{Ber, Der}

-- whether a text is one of two names
abbrev pub is_either : List ℕ → List ℕ → List ℕ → Bool
is_either text name other = bytes_eq text name || bytes_eq text other

abbrev pub mode_of_name : List ℕ → Result TagMode Error
mode_of_name text =
    if is_either text (codes "EXPLICIT") (codes "explicit") then Ok Explicit
    else if is_either text (codes "IMPLICIT") (codes "implicit") then Ok Implicit
    else Err (error_of_kind TagModeUnknown)

abbrev pub rules_of_name : List ℕ → Result EncodingRules Error
rules_of_name text =
    if is_either text (codes "ber") (codes "BER") then Ok Ber
    else if is_either text (codes "der") (codes "DER") then Ok Der
    else Err (error_of_kind EncodingRulesUnknown)
