-- OPTIONAL fields (X.690 8.9.3): `OptionNext`, and the possible results of reading and writing one
-- (`OptionRead`, `OptionWritten`).
use Rattle.std.specs.Prelude.{◌≡◌, ℕ, true, List, [], Option, Some, None, Result, Ok, Err}
use Rattle.der.specs.Prelude.{Tag, EncodingRules, Der, Error, definite_length, Length, WriterAnswer}
use Rattle.der.specs.Prelude.{map_ok, ReaderState}
use Rattle.der.specs.HeaderGrammar.{TagNext}
use Rattle.der.specs.Tag.{IdentifierFault}
use Rattle.der.specs.Decode.{Peeks}
use Rattle.der_asn1.specs.Follow.{NoTagIn}

-- a value, or nothing if none of its tags is next
abbrev pub OptionNext : {A : Type 0} → (Tag → Type 0)
    → (A → EncodingRules → List ℕ → ℕ → Type 0) → Option A → EncodingRules → List ℕ → ℕ → Type 0
OptionNext tags Next None rules octets m = (m ≡ 0) × NoTagIn tags rules octets
OptionNext tags Next (Some v) rules octets m = Next v rules octets m

abbrev pub IsOptional : {A : Type 0} → (A → Type 0) → Option A → Type 0
IsOptional valid None = Unit {0}
IsOptional valid (Some v) = valid v

abbrev pub option_encoding : {A : Type 0} → (A → List ℕ) → Option A → List ℕ
option_encoding encoding None = []
option_encoding encoding (Some v) = encoding v

abbrev pub OptionPrecedes : {A : Type 0} → (Tag → Type 0) → (A → List ℕ → Type 0) → Option A
    → List ℕ → Type 0
OptionPrecedes tags MayPrecede None following = NoTagIn tags Der following
OptionPrecedes tags MayPrecede (Some v) following = MayPrecede v following

-- the result of reading: nothing at the end or if another tag is next; else the value
pub data OptionRead {A E : Type 0} (tags : Tag → Type 0) (converts : Error → E → Type 0)
    (answers : ReaderState → Result A E → ReaderState → Type 0) (s : ReaderState)
    (result : Result (Option A) E) (t : ReaderState) : Type 0 where
  at_end : s.end ≡ s.position → result ≡ Ok None → t ≡ s
      → OptionRead tags converts answers s result t
  no_tag : (e : Error) (f : E) → Peeks TagNext IdentifierFault true s (Err e) → converts e f
      → result ≡ Err f → t ≡ s → OptionRead tags converts answers s result t
  other_tag : (u : Tag) → Peeks TagNext IdentifierFault true s (Ok u) → (tags u → ⊥)
      → result ≡ Ok None → t ≡ s → OptionRead tags converts answers s result t
  chosen : (u : Tag) (r : Result A E) → Peeks TagNext IdentifierFault true s (Ok u) → tags u
      → answers s r t → result ≡ map_ok Some r → OptionRead tags converts answers s result t

-- the number of octets
abbrev pub option_size : {A : Type 0} → (A → Result Length Error) → Option A → Result Length Error
option_size size None = Ok (definite_length 0)
option_size size (Some v) = size v

-- the possible results of writing: no octets for nothing
abbrev pub OptionWritten : {A : Type 0} → (A → WriterAnswer) → Option A → WriterAnswer
OptionWritten answers None s result t = (result ≡ Ok tt) × (t ≡ s)
OptionWritten answers (Some v) s result t = answers v s result t
