-- Dotted notation that is encoded: `EncodesText` is the result of `der_oid_from_text`, by the
-- contents (`IsEncoded`) or by why there are none (`IsNotEncoded`).
use Rattle.std.specs.Prelude.{◌≡◌, ◌⊎◌, ℕ, ◌<◌, ◌≤◌, true, false, List, [], ◌∷◌, ◌++◌, length, drop}
use Rattle.der_base.specs.Error.{error_of_kind}
use Rattle.der_base.specs.declared.error.ErrorKind.TheVariants.{OidMalformed, Overflow, Overlength}
use Rattle.der_asn1.specs.Arcs.{oid_octets}
use Rattle.der_asn1.specs.Forms.{oid_form}
use Rattle.der_c_core.specs.ErrorCode.{no_error, error_code}
use Rattle.der_c_core.specs.declared.error.DerError.{DerError}
use Rattle.der_c_values.specs.Dotted.{dotted_text, oid_text, are_small_arcs}

-- the arcs of an OBJECT IDENTIFIER: two at least, of which the first is 0, 1 or 2, and the second
-- below 40 under 0 and 1 (X.690 8.19.4)
abbrev pub AreOidArcs : List ℕ → Type 0
AreOidArcs [] = ⊥
AreOidArcs (a ∷ []) = ⊥
AreOidArcs (a ∷ b ∷ arcs) = (a ≤ 2) × (a < 2 → b < 40)

-- the text is the dotted notation of an OBJECT IDENTIFIER, which has these arcs
abbrev pub IsDotted : List ℕ → List ℕ → Type 0
IsDotted text arcs = AreOidArcs arcs × (text ≡ dotted_text arcs)

-- a subidentifier does not fit in 128 bits, or there are more than 256 contents octets
abbrev pub AreTooLarge : List ℕ → Type 0
AreTooLarge arcs = (are_small_arcs arcs ≡ false) ⊎ (256 < length (oid_octets arcs))

-- contents of which the text is the dotted notation
abbrev pub IsEncoded : List ℕ → List ℕ → Type 0
IsEncoded text octets = (oid_form octets ≡ true) × (text ≡ oid_text octets)

-- the text is the dotted notation of arcs that are too large; or it is that of no OBJECT IDENTIFIER
pub data IsNotEncoded (text : List ℕ) (e : DerError) : Type 0 where
  too_large : (arcs : List ℕ) → IsDotted text arcs → AreTooLarge arcs
      → e ≡ error_code (error_of_kind Overflow) → IsNotEncoded text e
  no_text : ((arcs : List ℕ) → IsDotted text arcs → ⊥)
      → e ≡ error_code (error_of_kind OidMalformed) → IsNotEncoded text e

-- a text is encoded as the contents of which it is the dotted notation, and the octets after them
-- are unchanged; or there is an error, and nothing changes: there is no space for these contents,
-- or there are none
pub data EncodesText (text : List ℕ) (result : DerError) (old new : List ℕ) (before after : ℕ)
    : Type 0 where
  encoded : (octets : List ℕ) → IsEncoded text octets → result ≡ no_error → after ≡ length octets
      → new ≡ octets ++ drop (length octets) old → EncodesText text result old new before after
  no_space : (octets : List ℕ) → IsEncoded text octets → length old < length octets
      → result ≡ error_code (error_of_kind Overlength) → new ≡ old → after ≡ before
      → EncodesText text result old new before after
  refused : IsNotEncoded text result → new ≡ old → after ≡ before
      → EncodesText text result old new before after
