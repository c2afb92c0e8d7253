-- An error is a kind and an optional position: `error_of_kind`, `error_at` and others construct
-- one. A `Refusal` is an error together with the state in which it leaves a reader: `refusal`,
-- `missing_refusal` and `end_refusal` construct one.
use Rattle.std.specs.Prelude.{ℕ, ◌+◌, ◌-◌, ◌^◌, ◌==◌, nat_lt, Bool, true, Option, Some, None, if◌then◌else◌}
use Rattle.der_base.specs.Length.{number, definite_length}
use Rattle.der_base.specs.declared.length.Length.{Length}
use Rattle.der_base.specs.declared.tag.Tag.{Tag}
use Rattle.der_base.specs.declared.error.Error.{Error}
use Rattle.der_base.specs.declared.error.ErrorKind.{ErrorKind}
use Rattle.der_base.specs.declared.error.ErrorKind.TheVariants.{Incomplete, Overflow, TagUnexpected}

-- the fields of an error
abbrev pub kind_of : Error → ErrorKind
kind_of e = e.kind

abbrev pub position_of : Error → Option Length
position_of e = e.position

-- without a position
abbrev pub error_of_kind : ErrorKind → Error
error_of_kind k = record { kind = k; position = None }

abbrev pub error_at : ErrorKind → Length → Error
error_at k p = record { kind = k; position = Some p }

-- the input ends after this many octets and one more is required; an overflow if that number
-- exceeds 32 bits
abbrev pub error_at_end : Length → Error
error_at_end l =
    error_at (if number l == 2 ^ 32 - 1 then Overflow
    else Incomplete (definite_length (number l + 1)) l) l

-- another tag was expected
abbrev pub unexpected_tag : Tag → Tag → Error
unexpected_tag expected actual = error_of_kind (TagUnexpected (Some expected) actual)

-- the failure of a grammar on some octets: the error, the position where it leaves a reader, and
-- whether that reader is then failed
pub record Refusal : Type 0 where
  pub error : Error
  pub position : ℕ
  pub fails : Bool

-- an error of this kind at this position
abbrev pub refusal : ErrorKind → ℕ → Refusal
refusal k p = record { error = error_at k (definite_length p); position = p; fails = true }

-- the input would need `expected` octets but has only `actual`; if a length cannot represent
-- `expected`, this is an overflow without a position, which does not mark the reader failed
abbrev pub missing_refusal : ℕ → ℕ → ℕ → Refusal
missing_refusal expected actual p =
    record {
      error =
          if nat_lt expected (2 ^ 32)
          then error_at (Incomplete (definite_length expected) (definite_length actual))
          (definite_length p)
          else record { kind = Overflow; position = None };
      position = p;
      fails = nat_lt expected (2 ^ 32);
    }

-- the input ends at this position and one more octet is required
abbrev pub end_refusal : ℕ → Refusal
end_refusal end = missing_refusal (end + 1) end end
