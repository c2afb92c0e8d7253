-- Fields with a default, which under DER are absent if and only if they have it (X.690 11.5):
-- `DefaultNext`, the valid values (`IsDefaulted`), and the possible results of reading and writing
-- one (`DefaultRead`, `DefaultWritten`).
use Rattle.std.specs.Prelude.{◌≡◌, ℕ, ◌⊎◌, Bool, true, false, List, [], Result, Ok, Err}
use Rattle.std.specs.Prelude.{if◌then◌else◌}
use Rattle.der.specs.Prelude.{Tag, EncodingRules, Der, Error, error_at, definite_length, Length}
use Rattle.der.specs.Prelude.{WriterAnswer, ReaderState, reader_position}
use Rattle.der.specs.ErrorKinds.{Noncanonical}
use Rattle.der.specs.HeaderGrammar.{TagNext}
use Rattle.der.specs.Tag.{IdentifierFault}
use Rattle.der.specs.Decode.{Peeks}
use Rattle.der.specs.ReaderState.{stopped_state}
use Rattle.der_asn1.specs.Follow.{NoTagIn}

-- the default may be absent, and under DER it must be; any other value is present
pub data DefaultNext {A : Type 0} (tags : Tag → Type 0) (is_default : A → Bool)
    (Next : A → EncodingRules → List ℕ → ℕ → Type 0) (v : A) (rules : EncodingRules)
    (octets : List ℕ) (m : ℕ) : Type 0 where
  absent : is_default v ≡ true → m ≡ 0 → NoTagIn tags rules octets
      → DefaultNext tags is_default Next v rules octets m
  present : (rules ≡ Der → is_default v ≡ false) → Next v rules octets m
      → DefaultNext tags is_default Next v rules octets m

abbrev pub default_encoding : {A : Type 0} → (A → Bool) → (A → List ℕ) → A → List ℕ
default_encoding is_default encoding v = if is_default v then [] else encoding v

-- a value is the default, or valid
abbrev pub IsDefaulted : {A : Type 0} → (A → Bool) → (A → Type 0) → A → Type 0
IsDefaulted is_default valid v = (is_default v ≡ true) ⊎ valid v

abbrev pub DefaultPrecedes : {A : Type 0} → (Tag → Type 0) → (A → Bool) → (A → List ℕ → Type 0)
    → A → List ℕ → Type 0
DefaultPrecedes tags is_default MayPrecede v following =
    (is_default v ≡ true → NoTagIn tags Der following)
    × (is_default v ≡ false → MayPrecede v following)

-- the result of reading: the default at the end or if another tag is next; else the value, which
-- under DER must not be the default
pub data DefaultRead {A E : Type 0} (tags : Tag → Type 0) (is_default : A → Bool)
    (converts : Error → E → Type 0) (answers : ReaderState → Result A E → ReaderState → Type 0)
    (s : ReaderState) (result : Result A E) (t : ReaderState) : Type 0 where
  default_at_end : (v : A) → s.end ≡ s.position → is_default v ≡ true → result ≡ Ok v → t ≡ s
      → DefaultRead tags is_default converts answers s result t
  default_no_tag : (e : Error) (f : E) → Peeks TagNext IdentifierFault true s (Err e)
      → converts e f → result ≡ Err f → t ≡ s
      → DefaultRead tags is_default converts answers s result t
  default_other_tag : (u : Tag) (v : A) → Peeks TagNext IdentifierFault true s (Ok u)
      → (tags u → ⊥) → is_default v ≡ true → result ≡ Ok v → t ≡ s
      → DefaultRead tags is_default converts answers s result t
  default_refused : (u : Tag) (e : E) → Peeks TagNext IdentifierFault true s (Ok u) → tags u
      → answers s (Err e) t → result ≡ Err e
      → DefaultRead tags is_default converts answers s result t
  default_written : (u : Tag) (v : A) (r : ReaderState) (e : E)
      → Peeks TagNext IdentifierFault true s (Ok u) → tags u → answers s (Ok v) r
      → r.rules ≡ Der → is_default v ≡ true
      → converts (error_at (Noncanonical u) (reader_position r)) e
      → result ≡ Err e → t ≡ stopped_state r r.position
      → DefaultRead tags is_default converts answers s result t
  default_other : (u : Tag) (v : A) → Peeks TagNext IdentifierFault true s (Ok u) → tags u
      → answers s (Ok v) t → (t.rules ≡ Der → is_default v ≡ false) → result ≡ Ok v
      → DefaultRead tags is_default converts answers s result t

abbrev pub default_size : {A : Type 0} → (A → Bool) → (A → Result Length Error) → A
    → Result Length Error
default_size is_default size v = if is_default v then Ok (definite_length 0) else size v

-- the possible results of writing: no octets for the default
abbrev pub DefaultWritten : {A : Type 0} → (A → Bool) → (A → WriterAnswer) → A → WriterAnswer
DefaultWritten is_default answers v s result t =
    (is_default v ≡ true → (result ≡ Ok tt) × (t ≡ s))
    × (is_default v ≡ false → answers v s result t)
