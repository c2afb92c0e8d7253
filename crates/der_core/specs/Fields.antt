-- Fields: elements in sequence, such as the contents of a SEQUENCE (X.690 8.9). `FieldsNext` is a
-- pair of them, `FieldsRead` and `FieldsWritten` have the cases of reading and writing one, and
-- `TakesWhole` uses it as contents.
use Rattle.std.specs.Prelude.{◌≡◌, ℕ, ◌+◌, List, drop, max, Result, Ok, Err}
use Rattle.der_base.specs.Arithmetic.{checked_length}
use Rattle.der_base.specs.HeaderGrammar.{Head}
use Rattle.der_base.specs.Length.{number}
use Rattle.der_base.specs.declared.length.Length.{Length}
use Rattle.der_base.specs.declared.error.Error.{Error}
use Rattle.der_base.specs.declared.encoding_rules.EncodingRules.{EncodingRules}
use Rattle.der_core.specs.Decode.{Whole}
use Rattle.der_core.specs.Encode.{WriterAnswer}
use Rattle.der_core.specs.ReaderState.{ReaderState}
use Rattle.der_core.specs.Writer.{WriterState}

-- the first m octets of a list are one value followed by another; three fields are one value and a
-- pair
pub record FieldsNext {A B : Type 0} (First : A → EncodingRules → List ℕ → ℕ → Type 0)
    (Second : B → EncodingRules → List ℕ → ℕ → Type 0) (v : A × B) (rules : EncodingRules)
    (octets : List ℕ) (m : ℕ) : Type 0 where
  pub first : ℕ
  pub second : ℕ
  pub next : First v.0 rules octets first
  pub following : Second v.1 rules (drop first octets) second
  pub whole : m ≡ first + second

-- the number of nesting levels that both require
abbrev pub fields_levels : (EncodingRules → ℕ) → (EncodingRules → ℕ) → EncodingRules → ℕ
fields_levels first second rules = max (first rules) (second rules)

-- one value is decoded, then another; the first error is the result
pub data FieldsRead {A B E : Type 0} (first : ReaderState → Result A E → ReaderState → Type 0)
    (second : ReaderState → Result B E → ReaderState → Type 0) (s : ReaderState)
    (result : Result (A × B) E) (t : ReaderState) : Type 0 where
  first_refused : (e : E) → first s (Err e) t → result ≡ Err e
      → FieldsRead first second s result t
  second_refused : (a : A) (u : ReaderState) (e : E) → first s (Ok a) u → second u (Err e) t
      → result ≡ Err e → FieldsRead first second s result t
  both_read : (a : A) (u : ReaderState) (b : B) → first s (Ok a) u → second u (Ok b) t
      → result ≡ Ok (a, b) → FieldsRead first second s result t

-- contents are accepted as a value if they are entirely that value, whatever their header
abbrev pub TakesWhole : {A : Type 0} → (A → EncodingRules → List ℕ → ℕ → Type 0)
    → A → EncodingRules → Head → List ℕ → Type 0
TakesWhole Next v rules h octets = Whole (Next v) rules octets

-- the number of octets of both, or the first error
abbrev pub fields_size : Result Length Error → Result Length Error → Result Length Error
fields_size (Err e) second = Err e
fields_size (Ok m) (Err e) = Err e
fields_size (Ok m) (Ok n) = checked_length (number m + number n)

-- one value is written, then another; the first error is the result
pub data FieldsWritten (first second : WriterAnswer) (s : WriterState)
    (result : Result (Unit {0}) Error) (t : WriterState) : Type 0 where
  refused : (e : Error) → first s (Err e) t → result ≡ Err e
      → FieldsWritten first second s result t
  continues : (u : WriterState) → first s (Ok tt) u → second u result t
      → FieldsWritten first second s result t
