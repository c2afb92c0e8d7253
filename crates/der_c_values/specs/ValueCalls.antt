-- The result of reading a value in C (`ReadsValue`): the next element has the tag, and its contents
-- have the form of the type; the value is the one that they encode (`IsValueOf`). `ReadsTyped` is
-- that of a call to which the type is passed.
use Rattle.std.specs.Prelude.{◌≡◌, ◌≢◌, ℕ, ◌/◌, ◌%◌, ◌^◌, Bool, true, false, List, if◌then◌else◌}
use Rattle.der_base.specs.Error.{error_at, error_of_kind}
use Rattle.der_base.specs.declared.error.ErrorKind.TheVariants.{Failed, TagNumberInvalid}
use Rattle.der_core.specs.ReaderState.{ReaderState, reader_position, stopped_state}
use Rattle.der_c_core.specs.ErrorCode.{no_error, error_code, coded}
use Rattle.der_c_core.specs.ElementCalls.{ExpectsElement}
use Rattle.der_c_core.specs.declared.error.DerError.{DerError}
use Rattle.der_c_core.specs.declared.element.DerElement.{DerElement}

-- an element with this tag is read, and these octets are its contents
pub record ReadsOctets (word : ℕ) (s : ReaderState) (octets : List ℕ) (t : ReaderState)
    : Type 0 where
  pub before : DerElement
  pub element : DerElement
  pub reads : ExpectsElement word s no_error before element t
  pub contents : element.contents.now ≡ octets

-- no element with this tag is read, with the errors of `der_expect`
pub record RefusesElement (word : ℕ) (s : ReaderState) (result : DerError) (t : ReaderState)
    : Type 0 where
  pub before : DerElement
  pub reads : ExpectsElement word s result before before t
  pub refused : result ≢ no_error

-- the error `Value` with the tag of this word, of which only 32 bits of a number are kept; without
-- a position, and at a position
abbrev pub value_code : ℕ → DerError
value_code word = coded 21 0 (word % 256) 0 (word / 256 % 2 ^ 32)

abbrev pub value_code_at : ℕ → ℕ → DerError
value_code_at word position =
    record (value_code word) { has_position = true; position = position }

-- the value has these contents octets
abbrev pub IsValueOf : {A : Type 0} → (A → List ℕ) → List ℕ → A → Type 0
IsValueOf contents octets v = contents v ≡ octets

-- there is no element with the tag; or its contents do not have the form, and the reader after it
-- has failed; or they do, and the value is theirs
pub data ReadsValue {A : Type 0} (form : List ℕ → Bool) (IsValue : List ℕ → A → Type 0)
    (word : ℕ) (s : ReaderState) (result : DerError) (old new : A) (t : ReaderState)
    : Type 0 where
  no_element : RefusesElement word s result t → new ≡ old
      → ReadsValue form IsValue word s result old new t
  no_value : (octets : List ℕ) (u : ReaderState) → ReadsOctets word s octets u
      → form octets ≡ false → result ≡ value_code_at word u.position
      → t ≡ stopped_state u u.position → new ≡ old
      → ReadsValue form IsValue word s result old new t
  value : (octets : List ℕ) → ReadsOctets word s octets t → form octets ≡ true
      → result ≡ no_error → IsValue octets new
      → ReadsValue form IsValue word s result old new t

-- the type that is passed is none of those that the call reads: the error is `TagNumberInvalid`, or
-- `Failed` if the reader had failed; the reader has failed
pub record RefusesType (s : ReaderState) (result : DerError) (t : ReaderState) : Type 0 where
  pub reported : result ≡ (if s.failed then error_code (error_at Failed (reader_position s))
      else error_code (error_of_kind TagNumberInvalid))
  pub stopped : t ≡ stopped_state s s.position

-- the type that is passed is none of those that the call reads; or a value of the type is read
pub data ReadsTyped {A : Type 0} (is_known : Bool) (form : List ℕ → Bool)
    (IsValue : List ℕ → A → Type 0) (word : ℕ) (s : ReaderState) (result : DerError) (old new : A)
    (t : ReaderState) : Type 0 where
  no_type : is_known ≡ false → RefusesType s result t → new ≡ old
      → ReadsTyped is_known form IsValue word s result old new t
  of_type : is_known ≡ true → ReadsValue form IsValue word s result old new t
      → ReadsTyped is_known form IsValue word s result old new t
