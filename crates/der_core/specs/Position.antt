-- The meaning of a `Position` (`position_place`), and the tables of its calls, which move it
-- (`Moves`).
use Rattle.std.specs.Prelude.{◌≡◌, ℕ, ◌+◌, ◌^◌, Result, Ok, Err, if◌then◌else◌, nat_lt, not}
use Rattle.der_base.specs.Length.{definite_length}
use Rattle.der_base.specs.Error.{error_at, error_of_kind, end_refusal}
use Rattle.der_base.specs.declared.length.Length.{Length}
use Rattle.der_base.specs.declared.error.Error.{Error}
use Rattle.der_base.specs.declared.error.ErrorKind.TheVariants.{Overflow, Incomplete, NestingDepth}
use Rattle.der_core.specs.declared.reader.position.Position.{Position}

-- an end, a position, and the number of nested parts around it
pub record Place : Type 0 where
  pub end : ℕ
  pub position : ℕ
  pub depth : ℕ

abbrev pub position_place : Position → Place
position_place p = record { end = p.end; position = p.position; depth = p.depth }

abbrev pub place_at : ℕ → ℕ → ℕ → Place
place_at e p d = record { end = e; position = p; depth = d }

pub record PlaceOutcome (A : Type 0) : Type 0 where
  pub answer : Result A Error
  pub after : Place

abbrev pub place_outcome : {A : Type 0} → Result A Error → Place → PlaceOutcome A
place_outcome answer after = record { answer = answer; after = after }

-- the call has the result, and the place after it, that its table gives
pub record Moves {A : Type 0} (table : Place → PlaceOutcome A) (s : Place) (answer : Result A Error)
    (t : Place) : Type 0 where
  pub answered : answer ≡ (table s).answer
  pub leaves : t ≡ (table s).after

abbrev pub advance_outcome : ℕ → Place → PlaceOutcome Length
advance_outcome n s =
    if not (nat_lt (s.position + n) (2 ^ 32)) then place_outcome (Err (error_of_kind Overflow)) s
    else if nat_lt s.end (s.position + n) then
    place_outcome
    (Err (error_at (Incomplete (definite_length (s.position + n)) (definite_length s.end))
    (definite_length s.position))) s
    else place_outcome (Ok (definite_length (s.position + n)))
    (place_at s.end (s.position + n) s.depth)

-- the error of a nested part that would end at `part_end`, after the end `end`
abbrev pub part_error : ℕ → ℕ → Error
part_error part_end end =
    if not (nat_lt part_end (2 ^ 32)) then error_of_kind Overflow else (end_refusal end).error

-- the end of a nested part of n octets
abbrev pub part_end : ℕ → Place → Result ℕ Error
part_end n s =
    if not (nat_lt (s.position + n) (2 ^ 32)) then Err (error_of_kind Overflow)
    else if nat_lt s.end (s.position + n) then Err (end_refusal s.end).error
    else Ok (s.position + n)

-- the place inside a nested part with this end
abbrev pub nested_place : Place → ℕ → Place
nested_place s end = place_at end s.position (s.depth + 1)

abbrev pub split_nested_outcome : ℕ → Place → PlaceOutcome (ℕ × ℕ)
split_nested_outcome n s =
    if not (nat_lt s.depth 64) then place_outcome
    (Err (error_at NestingDepth (definite_length s.position))) s
    else if not (nat_lt (s.position + n) (2 ^ 32))
    then place_outcome (Err (error_of_kind Overflow)) s
    else if nat_lt s.end (s.position + n) then place_outcome (Err (end_refusal s.end).error) s
    else place_outcome (Ok (s.end, s.depth)) (place_at (s.position + n) s.position (s.depth + 1))
