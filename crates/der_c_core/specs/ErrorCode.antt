-- Errors as C sees them, in 16 octets (`error_code`): from the kind (`kind_code`), its tags
-- (`tag_code`) and numbers, and the position (`placed_code`); `unbalanced_code` is that of an element
-- that is not ended.
use Rattle.std.specs.Prelude.{ℕ, true, false, Option, Some, None}
use Rattle.der_base.specs.Length.{number}
use Rattle.der_base.specs.Error.{kind_of, position_of}
use Rattle.der_base.specs.declared.length.Length.{Length}
use Rattle.der_base.specs.declared.tag.Tag.{Tag}
use Rattle.der_base.specs.declared.error.Error.{Error}
use Rattle.der_base.specs.declared.error.ErrorKind.{ErrorKind}
use Rattle.der_base.specs.declared.error.ErrorKind.TheVariants as kind
use Rattle.der_c_core.specs.TagWord.{tag_octet, long_number}
use Rattle.der_c_core.specs.declared.error.DerError.{DerError}

-- an error of a kind, with the first octets of two tags and with two numbers, and without a
-- position
abbrev pub coded : ℕ → ℕ → ℕ → ℕ → ℕ → DerError
coded k expected actual m n =
    record {
      kind = k;
      has_position = false;
      expected = expected;
      actual = actual;
      position = 0;
      first = m;
      second = n;
    }

abbrev pub no_error : DerError
no_error = coded 0 0 0 0 0

-- an element is not ended, or is ended out of order: an error of writing in C alone, which is no
-- error of `der_core`
abbrev pub unbalanced_code : ℕ → DerError
unbalanced_code at = record (coded 23 0 0 0 0) { has_position = true; position = at }

-- an error of a kind that names one tag
abbrev pub tag_code : ℕ → Tag → DerError
tag_code k t = coded k 0 (tag_octet t) 0 (long_number t)

abbrev pub kind_code : ErrorKind → DerError
kind_code kind.DateTime = coded 1 0 0 0 0
kind_code kind.EncodingRules = coded 2 0 0 0 0
kind_code kind.Failed = coded 3 0 0 0 0
kind_code (kind.Incomplete expected actual) = coded 4 0 0 (number expected) (number actual)
kind_code kind.IndefiniteLength = coded 5 0 0 0 0
kind_code (kind.Length t) = tag_code 6 t
kind_code kind.NestingDepth = coded 7 0 0 0 0
kind_code (kind.Noncanonical t) = tag_code 8 t
kind_code kind.OidMalformed = coded 9 0 0 0 0
kind_code kind.SetDuplicate = coded 10 0 0 0 0
kind_code kind.SetOrdering = coded 11 0 0 0 0
kind_code kind.Overflow = coded 12 0 0 0 0
kind_code kind.Overlength = coded 13 0 0 0 0
kind_code kind.Reader = coded 14 0 0 0 0
kind_code kind.TagModeUnknown = coded 15 0 0 0 0
kind_code kind.TagNumberInvalid = coded 16 0 0 0 0
kind_code (kind.TagUnexpected None actual) = tag_code 17 actual
kind_code (kind.TagUnexpected (Some expected) actual) =
    coded 17 (tag_octet expected) (tag_octet actual) (long_number expected) (long_number actual)
kind_code (kind.TagUnknown octet) = coded 18 0 0 octet 0
kind_code (kind.TrailingData decoded remaining) = coded 19 0 0 (number decoded) (number remaining)
kind_code (kind.Utf8 error) = coded 20 0 0 0 0
kind_code (kind.Value t) = tag_code 21 t
kind_code kind.OutOfMemory = coded 22 0 0 0 0

abbrev pub placed_code : Option Length → DerError → DerError
placed_code None c = c
placed_code (Some p) c = record c { has_position = true; position = number p }

-- the C form of an error
abbrev pub error_code : Error → DerError
error_code e = placed_code (position_of e) (kind_code (kind_of e))
