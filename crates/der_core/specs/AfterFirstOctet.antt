-- Outcomes after a first octet, which was at a position and is already read: `IdentifierAfter`,
-- `DefiniteAfter` and `IsIndefiniteForm` for success; `RefusesNumber`, `RefusesIdentifier`,
-- `RefusesLongLength` and `RefusesIndefinite` for errors. `IsGuess`, `IsAlone`, `AreNext` and
-- `RawHeadNext` are about headers that are read at once.
use Rattle.std.specs.Prelude.{◌≡◌, ◌≢◌, ◌⊎◌, ℕ, ◌+◌, ◌%◌, ◌^◌, ◌<◌, ◌≤◌, Bool, false, Option, Some, None, List, ◌∷◌}
use Rattle.der_base.specs.FixedOctets.{high_number, indefinite_octet}
use Rattle.der_base.specs.Error.{Refusal}
use Rattle.der_base.specs.Tag.{IsIdentifier, IdentifierFault, universal_tag}
use Rattle.der_base.specs.Length.{length_octets}
use Rattle.der_base.specs.ScanGrammar.{NoBodyFault, BodyNext, BodyFault}
use Rattle.der_base.specs.HeaderGrammar.{LengthFault, HeadNext, head}
use Rattle.der_base.specs.declared.error.Error.{Error}
use Rattle.der_base.specs.declared.error.ErrorKind.{ErrorKind}
use Rattle.der_base.specs.declared.error.ErrorKind.TheVariants.{Overlength, Length as IncorrectLength}
use Rattle.der_base.specs.declared.encoding_rules.EncodingRules.{EncodingRules}
use Rattle.der_base.specs.declared.encoding_rules.EncodingRules.TheVariants.{Ber}
use Rattle.der_base.specs.declared.length.Length.{Length}
use Rattle.der_base.specs.declared.tag.Tag.{Tag}
use Rattle.der_core.specs.Identifier.{tag_of, is_constructed_identifier}
use Rattle.der_core.specs.declared.identifier.Identifier.{Identifier}
use Rattle.der_core.specs.ReaderState.{ReaderState, rest_of, state_after, Reads, Same}

-- the call returns the error of this failure and leaves the reader in the state that it specifies
pub record Stops (s : ReaderState) (r : Refusal) (e : Error) (t : ReaderState) : Type 0 where
  pub reported : e ≡ r.error
  pub leaves : t ≡ state_after s r

-- the error is one that `refuses` allows for some state of the same reader
abbrev pub IsErrorOf : (ReaderState → Error → ReaderState → Type 0) → ReaderState → Error → Type 0
IsErrorOf refuses s e = (t : ReaderState) × Same s t × refuses s e t

-- an octet and the universal tag with this identifier octet, or nothing
abbrev pub IsGuess : Option (ℕ × Tag) → Type 0
IsGuess None = Unit {0}
IsGuess (Some x) = universal_tag x.0 ≡ Some x.1

-- an octet that is a complete identifier
abbrev pub IsAlone : ℕ → Type 0
IsAlone o = (universal_tag o ≢ None) ⊎ ((64 ≤ o) × (o < 256) × (o % 32 < high_number))

-- the next two octets are a complete identifier and a length of one octet; `None` states nothing
abbrev pub AreNext : ReaderState → Option (ℕ × ℕ) → Type 0
AreNext s None = Unit {0}
AreNext s (Some x) =
    (s.failed ≡ false) × IsAlone x.0 × (x.1 < 128)
    × ((more : List ℕ) × (rest_of s ≡ x.0 ∷ x.1 ∷ more))

-- a header of this identifier and length
abbrev pub RawHeadNext : Identifier × Length → EncodingRules → List ℕ → ℕ → Type 0
RawHeadNext x = HeadNext (head (tag_of x.0) x.1 (is_constructed_identifier x.0))

-- an error in a long tag number, after any first octet that announces one
abbrev pub RefusesNumber : ReaderState → Error → ReaderState → Type 0
RefusesNumber s e t =
    (at first : ℕ) → s.position ≡ at + 1 → s.failed ≡ false → 64 ≤ first → first < 256
    → first % 32 ≡ high_number
    → (r : Refusal) × IdentifierFault s.rules at (first ∷ rest_of s) r × Stops s r e t

-- an identifier with this tag and constructed bit, after this first octet
abbrev pub IdentifierAfter : ℕ → Tag → Bool → ReaderState → ReaderState → Type 0
IdentifierAfter first t b s u =
    (l : List ℕ) × IsIdentifier s.rules (first ∷ l) t b × Reads s u l

-- an error in an identifier, after this first octet
abbrev pub RefusesIdentifier : ℕ → ReaderState → Error → ReaderState → Type 0
RefusesIdentifier first s e t =
    (at : ℕ) → s.position ≡ at + 1 → s.failed ≡ false
    → (r : Refusal) × IdentifierFault s.rules at (first ∷ rest_of s) r × Stops s r e t

-- the kind of error for a length that is not encoded as required: with the tag before it, if there
-- is one
abbrev pub wrong_length_kind : Option Tag → ErrorKind
wrong_length_kind None = Overlength
wrong_length_kind (Some t) = IncorrectLength t

-- a definite length, after this first octet
abbrev pub DefiniteAfter : ℕ → ℕ → ReaderState → ReaderState → Type 0
DefiniteAfter first n s t =
    (l : List ℕ) × (length_octets n ≡ first ∷ l) × Reads s t l × (n < 2 ^ 32)

-- an error in a definite length, after this first octet; one that is not encoded as required has
-- kind `wrong`
abbrev pub RefusesLongLength : ErrorKind → ℕ → ReaderState → Error → ReaderState → Type 0
RefusesLongLength wrong first s e t =
    (at : ℕ) → s.position ≡ at + 1 → s.failed ≡ false
    → (r : Refusal) × LengthFault NoBodyFault wrong s.rules at (first ∷ rest_of s) r × Stops s r e t

-- the indefinite form, after octet `0x80`: a body is next, and the reader does not move
pub record IsIndefiniteForm (l : Length) (s t : ReaderState) : Type 0 where
  pub octets : ℕ
  pub under_ber : s.rules ≡ Ber
  pub next : BodyNext l s.rules (rest_of s) octets
  pub leaves : t ≡ s

-- an error in the indefinite form, after octet `0x80`
abbrev pub RefusesIndefinite : ReaderState → Error → ReaderState → Type 0
RefusesIndefinite s e t =
    (wrong : ErrorKind) (at : ℕ) → s.position ≡ at + 1 → s.failed ≡ false
    → (r : Refusal) × LengthFault BodyFault wrong s.rules at (indefinite_octet ∷ rest_of s) r
    × Stops s r e t
