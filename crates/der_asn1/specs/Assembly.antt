-- Assembly of lists: the items are written one after the other into a buffer, and read again.
use Rattle.std.specs.Prelude.{◌≡◌, List, [], ◌∷◌, ℕ, Result, Ok, Err}
use Rattle.der.specs.Encode.{PlacesErrors, SliceAnswer, ThenAnswer}
use Rattle.der.specs.Prelude.{Error, WriterAnswer}

-- values are written one after the other, up to the first error
abbrev pub ValuesWritten : {A : Type 0} → (A → WriterAnswer) → List A → WriterAnswer
ValuesWritten answers [] s r u = (r ≡ Ok tt) × (u ≡ s)
ValuesWritten {A} answers (v ∷ vs) s r u = (first : Result (Unit {0}) Error) × (t : _)
    × PlacesErrors (answers v) s first t × ThenAnswer first t (ValuesWritten answers vs) s r u

-- the result of reading octets, if there was no error before
abbrev pub ThenRead : Result (List ℕ) Error → (List ℕ → Result (Unit {0}) Error → Type 0)
    → Result (Unit {0}) Error → Type 0
ThenRead (Ok octets) reads result = reads octets result
ThenRead (Err e) reads result = result ≡ Err e

-- octets are written, and what was written is read; or the first error
abbrev pub WrittenThenRead : (Result (List ℕ) Error → Type 0)
    → (List ℕ → Result (Unit {0}) Error → Type 0) → Result (Unit {0}) Error → Type 0
WrittenThenRead writes reads result =
    (octets : Result (List ℕ) Error) × writes octets × ThenRead octets reads result

-- the items are written into the buffer, and what was written is read as a list; or the first error
abbrev pub ListAssembled : {A : Type 0} → (A → WriterAnswer)
    → (List ℕ → Result (Unit {0}) Error → Type 0) → List A → List ℕ → Result (Unit {0}) Error
    → Type 0
ListAssembled answers reads items buffer result =
    WrittenThenRead (SliceAnswer (ValuesWritten answers items) buffer) reads result
