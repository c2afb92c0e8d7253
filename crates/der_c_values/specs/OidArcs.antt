-- The arcs of an OBJECT IDENTIFIER as numbers of 64 bits: `GivesArcs` is the result of
-- `der_oid_arcs`.
use Rattle.std.specs.Prelude.{◌≡◌, ℕ, ◌^◌, ◌<◌, Bool, true, false, nat_lt, Option, Some, None, List, ◌++◌, map, length, drop, unwrap_or, if◌then◌else◌}
use Rattle.std.specs.List.{list_all}
use Rattle.der_base.specs.Error.{error_of_kind}
use Rattle.der_base.specs.declared.error.ErrorKind.TheVariants.{Overflow, Overlength}
use Rattle.der_asn1.specs.Arcs.{oid_arcs}
use Rattle.der_asn1.specs.Forms.{oid_form}
use Rattle.der_c_core.specs.ErrorCode.{no_error, error_code}
use Rattle.der_c_core.specs.declared.error.DerError.{DerError}
use Rattle.der_c_values.specs.ValueCalls.{value_code}

-- whether each arc fits in 64 bits
abbrev pub are_narrow_arcs : List ℕ → Bool
are_narrow_arcs arcs = list_all (λ n. nat_lt n (2 ^ 64)) arcs

-- the octets are not contents of an OBJECT IDENTIFIER; or an arc is too large; or there is no space
-- for the arcs; or these are written, and the numbers after them are unchanged
pub data GivesArcs (octets : List ℕ) (result : DerError) (old new : List ℕ) (before after : ℕ)
    : Type 0 where
  no_oid : oid_form octets ≡ false → result ≡ value_code 6 → new ≡ old → after ≡ before
      → GivesArcs octets result old new before after
  too_large : oid_form octets ≡ true → are_narrow_arcs (oid_arcs octets) ≡ false
      → result ≡ error_code (error_of_kind Overflow) → new ≡ old → after ≡ before
      → GivesArcs octets result old new before after
  no_space : oid_form octets ≡ true → are_narrow_arcs (oid_arcs octets) ≡ true
      → length old < length (oid_arcs octets) → result ≡ error_code (error_of_kind Overlength)
      → new ≡ old → after ≡ before → GivesArcs octets result old new before after
  succeeds : oid_form octets ≡ true → are_narrow_arcs (oid_arcs octets) ≡ true → result ≡ no_error
      → after ≡ length (oid_arcs octets) → new ≡ oid_arcs octets ++ drop after old
      → GivesArcs octets result old new before after

-- an arc, if it fits in 64 bits
abbrev pub narrow_item : Option ℕ → Option ℕ
narrow_item None = None
narrow_item (Some n) = if nat_lt n (2 ^ 64) then Some n else None

-- arcs as numbers, with 0 in place of those that do not fit
abbrev pub item_numbers : List (Option ℕ) → List ℕ
item_numbers items = map (λ o. unwrap_or (narrow_item o) 0) items
