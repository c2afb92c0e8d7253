-- CHOICE of two types (X.690 8.13): an element of one of them, decided by its tag (`EitherNext`),
-- and the possible results of reading and writing one (`EitherRead`, `EitherWritten`).
use Rattle.std.specs.Prelude.{◌≡◌, ℕ, true, List, None, Result, Ok, Err}
use Rattle.der.specs.Prelude.{Tag, EncodingRules, Error, error_at, Length, WriterAnswer, map_ok}
use Rattle.der.specs.Prelude.{ReaderState, reader_position}
use Rattle.der.specs.ErrorKinds.{TagUnexpected}
use Rattle.der.specs.HeaderGrammar.{TagNext}
use Rattle.der.specs.Tag.{IdentifierFault}
use Rattle.der.specs.Decode.{Peeks}
use Rattle.der.specs.ReaderState.{stopped_state}
use Rattle.der_asn1.specs.Follow.{NoTagIn}
use Rattle.der_asn1.specs.declared.fields.either.Either.{Either}
use Rattle.der_asn1.specs.declared.fields.either.Either.TheVariants.{First, Second}

-- a value of the first type, or of the second if no tag of the first type is next
abbrev pub EitherNext : {A B : Type 0} → (Tag → Type 0)
    → (A → EncodingRules → List ℕ → ℕ → Type 0) → (B → EncodingRules → List ℕ → ℕ → Type 0)
    → Either A B → EncodingRules → List ℕ → ℕ → Type 0
EitherNext tags One Two (First v) rules octets m = One v rules octets m
EitherNext tags One Two (Second v) rules octets m =
    Two v rules octets m × NoTagIn tags rules octets

abbrev pub IsEither : {A B : Type 0} → (A → Type 0) → (B → Type 0) → Either A B → Type 0
IsEither one two (First v) = one v
IsEither one two (Second v) = two v

abbrev pub either_encoding : {A B : Type 0} → (A → List ℕ) → (B → List ℕ) → Either A B → List ℕ
either_encoding one two (First v) = one v
either_encoding one two (Second v) = two v

-- the result of reading: an error of the tag, the result of the type whose tag is next, or an error
-- because the tag belongs to neither
pub data EitherRead {A B E : Type 0} (one_tags two_tags : Tag → Type 0)
    (converts : Error → E → Type 0) (one : ReaderState → Result A E → ReaderState → Type 0)
    (two : ReaderState → Result B E → ReaderState → Type 0) (s : ReaderState)
    (result : Result (Either A B) E) (t : ReaderState) : Type 0 where
  either_no_tag : (e : Error) (f : E) → Peeks TagNext IdentifierFault true s (Err e)
      → converts e f → result ≡ Err f → t ≡ s
      → EitherRead one_tags two_tags converts one two s result t
  either_first : (u : Tag) (r : Result A E) → Peeks TagNext IdentifierFault true s (Ok u)
      → one_tags u → one s r t → result ≡ map_ok First r
      → EitherRead one_tags two_tags converts one two s result t
  either_second : (u : Tag) (r : Result B E) → Peeks TagNext IdentifierFault true s (Ok u)
      → (one_tags u → ⊥) → two_tags u → two s r t → result ≡ map_ok Second r
      → EitherRead one_tags two_tags converts one two s result t
  either_neither : (u : Tag) (e : E) → Peeks TagNext IdentifierFault true s (Ok u)
      → (one_tags u → ⊥) → (two_tags u → ⊥)
      → converts (error_at (TagUnexpected None u) (reader_position s)) e → result ≡ Err e
      → t ≡ stopped_state s s.position
      → EitherRead one_tags two_tags converts one two s result t

abbrev pub either_size : {A B : Type 0} → (A → Result Length Error) → (B → Result Length Error)
    → Either A B → Result Length Error
either_size one two (First v) = one v
either_size one two (Second v) = two v

-- the possible results of writing: those of the chosen type
abbrev pub EitherWritten : {A B : Type 0} → (A → WriterAnswer) → (B → WriterAnswer) → Either A B
    → WriterAnswer
EitherWritten one two (First v) = one v
EitherWritten one two (Second v) = two v
