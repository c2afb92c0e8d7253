-- Results of a scan (X.690 8.1.3.6, 8.1.5): the body of an indefinite length (`BodyNext`,
-- `TokensNext`), or why there is none (`BodyFault`, by one of the nine cases of `ScanFault`).
use Rattle.std.specs.Prelude.{◌≡◌, ◌≢◌, ℕ, ◌+◌, ◌-◌, ◌*◌, ◌/◌, ◌^◌, ◌<◌, min, Bool, true, false, List, [], ◌∷◌, ◌++◌, length}
use Rattle.der_base.specs.FixedOctets.{indefinite_octet}
use Rattle.der_base.specs.Length.{indefinite_length, length_octets}
use Rattle.der_base.specs.Tag.{IsIdentifier, IsCutIdentifier, identifier_kind}
use Rattle.der_base.specs.Body.{Body, Open}
use Rattle.der_base.specs.HeaderGrammar.{LengthFault}
use Rattle.der_base.specs.Error.{Refusal, refusal, end_refusal, missing_refusal}
use Rattle.der_base.specs.declared.length.Length.{Length}
use Rattle.der_base.specs.declared.tag.Tag.{Tag}
use Rattle.der_base.specs.declared.error.ErrorKind.TheVariants.{IndefiniteLength, NestingDepth, Length as IncorrectLength}
use Rattle.der_base.specs.declared.encoding_rules.EncodingRules.{EncodingRules}
use Rattle.der_base.specs.declared.encoding_rules.EncodingRules.TheVariants.{Ber}

-- octets begin with a body that contains `parts` identifiers and end-of-contents
abbrev pub TokensNext : ℕ → List ℕ → Type 0
TokensNext parts octets = (body following : List ℕ) × Body 1 parts body
    × (octets ≡ body ++ following)

-- the first m octets of a list are a body, and the indefinite length l counts them
pub record BodyNext (l : Length) (rules : EncodingRules) (octets : List ℕ) (m : ℕ) : Type 0 where
  pub parts : ℕ
  pub body : List ℕ
  pub following : List ℕ
  pub is_body : Body 1 parts body
  pub split : octets ≡ body ++ following
  pub sized : m ≡ length body
  pub counts : l ≡ indefinite_length m

-- no fault of a body: a scan reads lengths itself and does not search for a body after octet `0x80`
abbrev pub NoBodyFault : ℕ → List ℕ → Refusal → Type 0
NoBodyFault at octets r = ⊥

-- the number of octets in the whole steps of sixteen that fit into the `left` octets
abbrev pub passed_steps : ℕ → ℕ
passed_steps left = 16 * (left / 16)

-- n octets are required at a position and fewer are left: whole steps of sixteen are consumed, and
-- the error is that of the next step, or of the rest of the n octets if that is shorter
abbrev pub short_refusal : ℕ → ℕ → ℕ → Refusal
short_refusal n left at =
    missing_refusal (at + passed_steps left + min 16 (n - passed_steps left)) (at + left)
    (at + passed_steps left)

-- a scan at a position with `level` bodies open cannot continue: nothing follows; half an
-- end-of-contents; a zero octet and a nonzero one; an octet with which no identifier continues; a
-- truncated identifier; a primitive identifier and octet `0x80`; a constructed one and `0x80`, with
-- all levels open; an identifier and no length; or a length of more octets than are left
pub data ScanFault (level at : ℕ) : List ℕ → Refusal → Type 0 where
  nothing : ScanFault level at [] (end_refusal at)
  half_eoc : ScanFault level at (0 ∷ []) (end_refusal (at + 1))
  no_eoc : (o : ℕ) (rest : List ℕ) → o ≢ 0
      → ScanFault level at (0 ∷ o ∷ rest) (refusal IndefiniteLength (at + 2))
  refused_identifier : (s : List ℕ) (o : ℕ) (rest : List ℕ) → s ++ o ∷ [] ≢ 0 ∷ []
      → IsCutIdentifier Ber s
      → ((more : List ℕ) (t : Tag) (b : Bool) → IsIdentifier Ber ((s ++ o ∷ []) ++ more) t b → ⊥)
      → ScanFault level at (s ++ o ∷ rest) (refusal (identifier_kind s o) (at + length s + 1))
  cut_identifier : (o : ℕ) (s : List ℕ) → IsCutIdentifier Ber (o ∷ s)
      → ScanFault level at (o ∷ s) (end_refusal (at + length (o ∷ s)))
  primitive : {id : List ℕ} {t : Tag} (rest : List ℕ) → IsIdentifier Ber id t false
      → ScanFault level at (id ++ indefinite_octet ∷ rest)
      (refusal IndefiniteLength (at + length id + 1))
  too_deep : {id : List ℕ} {t : Tag} (rest : List ℕ) → level ≡ 64 → IsIdentifier Ber id t true
      → ScanFault level at (id ++ indefinite_octet ∷ rest)
      (refusal NestingDepth (at + length id + 1))
  no_length : {id more : List ℕ} {t : Tag} {b : Bool} {r : Refusal} → IsIdentifier Ber id t b
      → LengthFault NoBodyFault (IncorrectLength t) Ber (at + length id) more r
      → ScanFault level at (id ++ more) r
  short : {id : List ℕ} {t : Tag} {b : Bool} (n : ℕ) (rest : List ℕ) → IsIdentifier Ber id t b
      → n < 2 ^ 32 → length rest < n
      → ScanFault level at (id ++ (length_octets n ++ rest))
      (short_refusal n (length rest) (at + length id + length (length_octets n)))

-- octets at a position do not begin with a body: a beginning of a body, cut between items, was
-- consumed, and the octets after it cannot continue it
pub record BodyFault (at : ℕ) (octets : List ℕ) (r : Refusal) : Type 0 where
  pub level : ℕ
  pub parts : ℕ
  pub passed : List ℕ
  pub left : List ℕ
  pub split : octets ≡ passed ++ left
  pub reached : Open level parts passed
  pub stops : ScanFault level (at + length passed) left r
