-- The error that a code of C is the form of (`kind_known`, `error_with`).
use Rattle.std.specs.Prelude.{ℕ, ◌%◌, List, [], ◌∷◌, ◌++◌, Option, Some, None, nat_eq, if◌then◌else◌}
use Rattle.std.specs.Option.{option_map}
use Rattle.der_base.specs.Length.{definite_length}
use Rattle.der_base.specs.declared.tag.Tag.{Tag}
use Rattle.der_base.specs.declared.error.Error.{Error}
use Rattle.der_base.specs.declared.error.ErrorKind.{ErrorKind}
use Rattle.der_base.specs.declared.error.ErrorKind.TheVariants as kind
use Rattle.der_c_core.specs.TagWord.{said_tag}
use Rattle.der_c_core.specs.declared.error.DerError.{DerError}

-- the tags of a code: the one found, and the expected one
abbrev pub found_tag : DerError → Option Tag
found_tag c = said_tag c.actual c.second

abbrev pub expected_tag : DerError → Option Tag
expected_tag c = said_tag c.expected c.first

-- the kind for each number, with the numbers of the code
abbrev pub plain_rows : DerError → List (ℕ × Option ErrorKind)
plain_rows c =
    (1, Some kind.DateTime) ∷ (2, Some kind.EncodingRules) ∷ (3, Some kind.Failed)
    ∷ (4, Some (kind.Incomplete (definite_length c.first) (definite_length c.second)))
    ∷ (5, Some kind.IndefiniteLength) ∷ (7, Some kind.NestingDepth)
    ∷ (9, Some kind.OidMalformed) ∷ (10, Some kind.SetDuplicate) ∷ (11, Some kind.SetOrdering)
    ∷ (12, Some kind.Overflow) ∷ (13, Some kind.Overlength) ∷ (14, Some kind.Reader)
    ∷ (15, Some kind.TagModeUnknown) ∷ (16, Some kind.TagNumberInvalid)
    ∷ (18, Some (kind.TagUnknown (c.first % 256)))
    ∷ (19, Some (kind.TrailingData (definite_length c.first) (definite_length c.second)))
    ∷ (22, Some kind.OutOfMemory) ∷ []

-- the kind for each number of a kind that names a tag, with the tags of the code
abbrev pub tag_rows : DerError → List (ℕ × Option ErrorKind)
tag_rows c =
    (6, option_map kind.Length (found_tag c)) ∷ (8, option_map kind.Noncanonical (found_tag c))
    ∷ (17, option_map (kind.TagUnexpected (expected_tag c)) (found_tag c))
    ∷ (21, option_map kind.Value (found_tag c)) ∷ []

abbrev pub kind_among : List (ℕ × Option ErrorKind) → ℕ → Option ErrorKind
kind_among [] n = None
kind_among (row ∷ rows) n = if nat_eq n row.0 then row.1 else kind_among rows n

-- the kind that a code is the form of, except the one about octets that are not UTF-8
abbrev pub kind_known : DerError → Option ErrorKind
kind_known c = kind_among (plain_rows c ++ tag_rows c) c.kind

-- an error of a kind, at the position of the code if it has one
abbrev pub error_with : DerError → ErrorKind → Error
error_with c k =
    record { kind = k; position = if c.has_position then Some (definite_length c.position) else None }
