-- Dotted notation of OBJECT IDENTIFIERs (RFC 4512, 1.4): `dotted_text`, and `oid_text` of contents.
-- `GivesOidText` and `ComparesOid` are the results of `der_oid_text` and `der_oid_is`.
use Rattle.std.specs.Prelude.{◌≡◌, ℕ, ◌+◌, ◌*◌, ◌^◌, ◌≤◌, ◌&&◌, Bool, true, false, nat_lt, Option, Some, None, List, [], ◌∷◌, ◌++◌, map, length, drop, is_some}
use Rattle.std.specs.List.{join_with_byte, flat_map, list_all}
use Rattle.der_base.specs.Length.{digits}
use Rattle.der_base.specs.Error.{error_of_kind}
use Rattle.der_base.specs.declared.error.ErrorKind.TheVariants.{Overflow, Overlength}
use Rattle.der_asn1.specs.Arcs.{oid_arcs}
use Rattle.der_asn1.specs.Forms.{oid_form}
use Rattle.der_c_core.specs.ErrorCode.{no_error, error_code}
use Rattle.der_c_core.specs.declared.error.DerError.{DerError}
use Rattle.der_c_values.specs.ValueCalls.{value_code}

-- a number in decimal, without leading zeros
abbrev pub decimal_text : ℕ → List ℕ
decimal_text n = map (λ d. 48 + d) (digits 10 n)

-- numbers in decimal, with dots between them
abbrev pub dotted_text : List ℕ → List ℕ
dotted_text arcs = join_with_byte 46 (map decimal_text arcs)

-- the dotted notation of the contents of an OBJECT IDENTIFIER
abbrev pub oid_text : List ℕ → List ℕ
oid_text octets = dotted_text (oid_arcs octets)

-- whether each subidentifier of the arcs fits in 128 bits: the first, of two arcs, and each other
-- (X.690 8.19.3, 8.19.4)
abbrev pub are_small_arcs : List ℕ → Bool
are_small_arcs [] = true
are_small_arcs (a ∷ []) = true
are_small_arcs (a ∷ b ∷ arcs) =
    nat_lt (40 * a + b) (2 ^ 128) && list_all (λ n. nat_lt n (2 ^ 128)) arcs

-- the octets are not contents of an OBJECT IDENTIFIER; or an arc is too large; or there is no space
-- for the text and a zero octet; or these are written, and the octets after them are unchanged
pub data GivesOidText (octets : List ℕ) (result : DerError) (old new : List ℕ) (before after : ℕ)
    : Type 0 where
  no_oid : oid_form octets ≡ false → result ≡ value_code 6 → new ≡ old → after ≡ before
      → GivesOidText octets result old new before after
  too_large : oid_form octets ≡ true → are_small_arcs (oid_arcs octets) ≡ false
      → result ≡ error_code (error_of_kind Overflow) → new ≡ old → after ≡ before
      → GivesOidText octets result old new before after
  no_space : oid_form octets ≡ true → length old ≤ length (oid_text octets)
      → result ≡ error_code (error_of_kind Overlength) → new ≡ old → after ≡ before
      → GivesOidText octets result old new before after
  succeeds : oid_form octets ≡ true → result ≡ no_error → after ≡ length (oid_text octets)
      → new ≡ oid_text octets ++ (0 ∷ drop (after + 1) old)
      → GivesOidText octets result old new before after

-- arcs in decimal with a dot after each, as far as they fit in 128 bits
abbrev pub item_text : Option ℕ → List ℕ
item_text None = []
item_text (Some n) = decimal_text n ++ 46 ∷ []

abbrev pub items_text : List (Option ℕ) → List ℕ
items_text items = flat_map item_text items

-- whether all arcs fit in 128 bits
abbrev pub all_fit : List (Option ℕ) → Bool
all_fit items = list_all is_some items

-- the octets are contents of an OBJECT IDENTIFIER, and the text is its dotted notation; or it is
-- not, or an arc is too large
pub record ComparesOid (octets text : List ℕ) (result : Bool) : Type 0 where
  pub is : result ≡ true → (oid_form octets ≡ true) × (text ≡ oid_text octets)
  pub is_not : result ≡ false → oid_form octets ≡ true → text ≡ oid_text octets
      → are_small_arcs (oid_arcs octets) ≡ false
