-- The results of reading a whole value (`ReadsWhole`), and of reading the next item of a list
-- (`ReadsItem`, `ReadsNext`), for a type `A` and the struct `S` that C sees of it.
use Rattle.std.specs.Prelude.{◌≡◌, ℕ, ◌+◌, ◌≤◌, Bool, true, false, List, Result, Ok, Err, IsOk, if◌then◌else◌}
use Rattle.der_base.specs.Error.{kind_of}
use Rattle.der_base.specs.declared.error.Error.{Error}
use Rattle.der_base.specs.declared.error.ErrorKind.{ErrorKind}
use Rattle.der_base.specs.declared.error.ErrorKind.TheVariants.{TagUnexpected}
use Rattle.der_base.specs.declared.encoding_rules.EncodingRules.{EncodingRules}
use Rattle.der_core.specs.ReaderState.{ReaderState, rest_of, advanced_state, stopped_state}
use Rattle.der_core.specs.Decode.{Passes}
use Rattle.der_c_core.specs.ErrorCode.{no_error}
use Rattle.der_c_core.specs.Located.{Locates, LocatesIn}
use Rattle.der_c_core.specs.declared.error.DerError.{DerError}

-- decoding the octets returns a value, and the struct is that of the value; or it returns an error,
-- which is reported where the octets are cut (`LocatesIn`), and the struct is unchanged
pub data ReadsWhole {A S : Type 0} (decodes : List ℕ → Result A Error → Type 0)
    (IsOf : A → S → Type 0) (octets : List ℕ) (result : DerError) (old new : S) : Type 0 where
  read : (v : A) → decodes octets (Ok v) → IsOf v new → result ≡ no_error
      → ReadsWhole decodes IsOf octets result old new
  refused : (e : Error) → decodes octets (Err e) → LocatesIn octets e result → new ≡ old
      → ReadsWhole decodes IsOf octets result old new

-- whether an error is an unexpected tag
abbrev pub is_unexpected_tag : ErrorKind → Bool
is_unexpected_tag (TagUnexpected expected actual) = true
is_unexpected_tag _ = false

-- the reader after an error: unchanged after an unexpected tag, and failed after any other error
abbrev pub refused_state : ReaderState → Error → ReaderState → ReaderState
refused_state s e left =
    if is_unexpected_tag (kind_of e) then s else stopped_state left left.position

-- decoding returns this error
pub record RefusesItem {A : Type 0} (decodes : ReaderState → Result A Error → ReaderState → Type 0)
    (s : ReaderState) (result : DerError) (t : ReaderState) : Type 0 where
  pub error : Error
  pub left : ReaderState
  pub refused : decodes s (Err error) left
  pub reported : Locates s error result
  pub leaves : t ≡ refused_state s error left

-- the next octets are a value, which is decoded and passed; or decoding returns an error
abbrev pub NextItem : {A : Type 0} → (A → EncodingRules → List ℕ → ℕ → Type 0)
    → (ReaderState → Result A Error → ReaderState → Type 0) → ReaderState → Result A DerError
    → ReaderState → Type 0
NextItem Next decodes s (Ok v) t = decodes s (Ok v) t × Passes (Next v) s t
NextItem Next decodes s (Err e) t = RefusesItem decodes s e t

-- the next octets are a value, which is decoded and passed, and the struct is that of the value; or
-- decoding returns an error, and the struct is unchanged
pub data ReadsItem {A S : Type 0} (Next : A → EncodingRules → List ℕ → ℕ → Type 0)
    (decodes : ReaderState → Result A Error → ReaderState → Type 0) (IsOf : A → S → Type 0)
    (s : ReaderState) (result : DerError) (old new : S) (t : ReaderState) : Type 0 where
  read : (v : A) → decodes s (Ok v) t → Passes (Next v) s t → IsOf v new → result ≡ no_error
      → ReadsItem Next decodes IsOf s result old new t
  refused : RefusesItem decodes s result t → new ≡ old
      → ReadsItem Next decodes IsOf s result old new t

-- where the next octets are a value, and the levels of nesting suffice, it is returned and passed
abbrev pub NextComplete : {A B E : Type 0} → (A → EncodingRules → List ℕ → ℕ → Type 0)
    → (EncodingRules → ℕ) → ReaderState → Result B E → ReaderState → Type 0
NextComplete {A} Next levels s result t =
    (v : A) (m : ℕ) → s.failed ≡ false → Next v s.rules (rest_of s) m
    → s.depth + levels s.rules ≤ 64 → IsOk result × (t ≡ advanced_state s m)

-- the same of a call that stores the value in a struct
abbrev pub ReadsNext : {A : Type 0} → (A → EncodingRules → List ℕ → ℕ → Type 0)
    → (EncodingRules → ℕ) → ReaderState → DerError → ReaderState → Type 0
ReadsNext {A} Next levels s result t =
    (v : A) (m : ℕ) → s.failed ≡ false → Next v s.rules (rest_of s) m
    → s.depth + levels s.rules ≤ 64 → (result ≡ no_error) × (t ≡ advanced_state s m)
