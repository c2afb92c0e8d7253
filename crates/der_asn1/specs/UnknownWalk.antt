-- The possible results of looking at the next tag for one that a type does not know (`Looks`), and of
-- passing values that begin with such tags (`UnknownWalk`, `IsUnknownFront`, `PassesUnknown`).
use Rattle.std.specs.Prelude.{◌≡◌, ℕ, ◌-◌, ◌^◌, ◌<◌, Bool, true, false, List, ◌++◌, length, Result, Ok, Err}
use Rattle.der.specs.Prelude.{Ber, Der, EncodingRules, Error, Gives, Length, ReaderState, Reads, Tag, number, read_slice_outcome, rest_of}
use Rattle.der.specs.HeaderGrammar.{TagNext}
use Rattle.der.specs.Tag.{IdentifierFault}
use Rattle.der.specs.Decode.{Peeks}
use Rattle.der_asn1.specs.Additions.{AreUnknown, EndsUnknown}
use Rattle.der.specs.ReaderState.{initial_state}
use Rattle.der_asn1.specs.AnyElement.{AnyElementRead}
use Rattle.der_asn1.specs.AnyRef.{AnyRead}
use Rattle.der_asn1.specs.ListAnswers.{ItemAnswer, part_state}
use Rattle.der_asn1.specs.SequenceOf.{IsAtItem}
use Rattle.der_asn1.specs.TagSets.{is_among}

-- no octets are left, or a known tag is next; an unknown tag is next; or the tag cannot be read
pub data Looks (known : List (ℕ × ℕ)) (reliable : Bool) (s : ReaderState) (result : Result Bool Error)
    : Type 0 where
  at_end : s.end ≡ s.position → result ≡ Ok false → Looks known reliable s result
  at_known : (t : Tag) → Peeks TagNext IdentifierFault reliable s (Ok t) → is_among known t ≡ true
      → result ≡ Ok false → Looks known reliable s result
  at_unknown : (t : Tag) → Peeks TagNext IdentifierFault reliable s (Ok t)
      → is_among known t ≡ false → result ≡ Ok true → Looks known reliable s result
  no_tag : (e : Error) → (s.end ≡ s.position → ⊥)
      → Peeks TagNext IdentifierFault reliable s (Err e) → result ≡ Err e
      → Looks known reliable s result

-- values are read as long as an unknown tag is next, or up to the first error
pub data UnknownWalk {T E : Type 0} (known : List (ℕ × ℕ)) (converts : Error → E → Type 0)
    (reads : ReaderState → Result T E → ReaderState → Type 0) (result : Result (Unit {0}) E)
    (t : ReaderState) : ReaderState → Type 0 where
  walk_stops : {s : ReaderState} → Looks known true s (Ok false) → result ≡ Ok tt → t ≡ s
      → UnknownWalk known converts reads result t s
  look_refused : {s : ReaderState} (e : Error) (f : E) → Looks known true s (Err e) → converts e f
      → result ≡ Err f → t ≡ s → UnknownWalk known converts reads result t s
  walk_continues : {s : ReaderState} (r : ReaderState) (v : T) → Looks known true s (Ok true)
      → ItemAnswer converts reads s (Ok v) r → UnknownWalk known converts reads result t r
      → UnknownWalk known converts reads result t s
  value_refused : {s : ReaderState} (e : E) → Looks known true s (Ok true)
      → ItemAnswer converts reads s (Err e) t → result ≡ Err e
      → UnknownWalk known converts reads result t s

-- octets are values with unknown tags, and what follows does not belong to them
pub record IsUnknownFront {A : Type 0} (known : List (ℕ × ℕ)) (valid : A → Type 0)
    (encoding : A → List ℕ) (octets front : List ℕ) : Type 0 where
  pub following : List ℕ
  pub are : AreUnknown known valid encoding front
  pub split : octets ≡ front ++ following
  pub ends : EndsUnknown known following

-- such values are passed, and none is left
pub record PassesUnknown {A : Type 0} (known : List (ℕ × ℕ)) (valid : A → Type 0)
    (encoding : A → List ℕ) (s t : ReaderState) : Type 0 where
  pub front : List ℕ
  pub are : AreUnknown known valid encoding front
  pub reads : Reads s t front
  pub ends : EndsUnknown known (rest_of t)

-- the number of octets of such values
abbrev pub IsUnknownCount : {A : Type 0} → List (ℕ × ℕ) → (A → Type 0) → (A → List ℕ) → List ℕ → Length
    → Type 0
IsUnknownCount known valid encoding octets n =
    (front : List ℕ) × IsUnknownFront known valid encoding octets front × (number n ≡ length front)

-- the result of a walk, wherever it leaves the reader
abbrev pub UnknownWalked : {T E : Type 0} → List (ℕ × ℕ) → (Error → E → Type 0)
    → (ReaderState → Result T E → ReaderState → Type 0) → Result (Unit {0}) E → ReaderState
    → Type 0
UnknownWalked known converts reads result s =
    (t : ReaderState) × UnknownWalk known converts reads result t s

-- the values of a part of the input with these octets are passed. Under DER they are read where they
-- are in the input, so that positions of errors count from its start; under BER they are read from
-- the octets as from an input of their own, by a reader of DER
abbrev pub UnknownCounted : {T E : Type 0} → List (ℕ × ℕ) → (Error → E → Type 0)
    → (ReaderState → Result T E → ReaderState → Type 0)
    → (ReaderState → Result T E → ReaderState → Type 0) → Result (Unit {0}) E → EncodingRules
    → ReaderState → List ℕ → Type 0
UnknownCounted known converts reads alone result Der part octets =
    UnknownWalked known converts reads result part
UnknownCounted known converts reads alone result Ber part octets =
    UnknownWalked known converts alone result (initial_state Der octets)

-- the elements at an extension insertion point are passed
abbrev pub AdditionsCounted : List (ℕ × ℕ) → ReaderState → Result (Unit {0}) Error → Type 0
AdditionsCounted known s result =
    UnknownCounted known (λ e f. f ≡ e) (AnyElementRead (λ e f. f ≡ e) AnyRead)
    (AnyElementRead (λ e f. f ≡ e) AnyRead) result s.rules (part_state s (s.end - s.position))
    (rest_of s)

-- a reader of all octets that are left, at the same position of the input and outside all nested
-- parts
pub record IsLeft (s part : ReaderState) (octets : List ℕ) : Type 0 where
  pub working : s.failed ≡ false
  pub state : part ≡ part_state s (s.end - s.position)
  pub all : rest_of part ≡ octets
  pub rest : octets ≡ rest_of s
  pub at : part.rules ≡ Der → IsAtItem part
  pub short : length octets < 2 ^ 32

-- the result of reading them
pub data AdditionsRead {B : Type 0} (known : List (ℕ × ℕ)) (octets_of : B → List ℕ) (s : ReaderState)
    (result : Result B Error) (t : ReaderState) : Type 0 where
  additions_failed : (e : Error) → Err e ≡ (read_slice_outcome (s.end - s.position) s).answer
      → result ≡ Err e → t ≡ s → AdditionsRead known octets_of s result t
  additions_refused : (e : Error) → AdditionsCounted known s (Err e) → result ≡ Err e → t ≡ s
      → AdditionsRead known octets_of s result t
  additions_read : (b : B) → AdditionsCounted known s (Ok tt)
      → Gives (read_slice_outcome (length (octets_of b))) s (Ok (octets_of b)) t → result ≡ Ok b
      → AdditionsRead known octets_of s result t
