-- The possible results of reading a list, given those of reading each element: `ListWalked` for
-- `SequenceOf::new`, `SetWalked` for `SetOf::new`, and `ListRead` for reading contents.
use Rattle.std.specs.Prelude.{◌≡◌, ℕ, ◌+◌, ◌^◌, ◌<◌, true, false, List, [], ◌++◌, length, Result, Ok, Err}
use Rattle.std.proofs.Common.{Bor}
use Rattle.der.specs.Prelude.{Head, number, Error, EncodingRules, Der, Ber, Gives, error_at, reader_position}
use Rattle.der.specs.Prelude.{read_slice_outcome, ReaderState, rest_of, IsBefore}
use Rattle.der.specs.ErrorKinds.{Failed, SetOrdering}
use Rattle.der.specs.ReaderState.{initial_state}
use Rattle.der_asn1.specs.SequenceOf.{IsAtItem}

-- an element is read; or reading it fails; or it is read, but the reader has failed afterwards
pub data ItemAnswer {T E : Type 0} (converts : Error → E → Type 0)
    (reads : ReaderState → Result T E → ReaderState → Type 0) (s : ReaderState)
    (result : Result T E) (t : ReaderState) : Type 0 where
  item_read : (v : T) → reads s (Ok v) t → t.failed ≡ false → result ≡ Ok v
      → ItemAnswer converts reads s result t
  item_refused : (e : E) → reads s (Err e) t → result ≡ Err e → ItemAnswer converts reads s result t
  item_failed : (v : T) (u : ReaderState) (e : E) → reads s (Ok v) u → u.failed ≡ true
      → converts (error_at Failed (reader_position u)) e → result ≡ Err e
      → ItemAnswer converts reads s result t

-- an element is read, and its octets are returned instead of its value; or reading it fails
abbrev pub NextAnswer : {T E : Type 0} → (Error → E → Type 0)
    → (ReaderState → Result T E → ReaderState → Type 0) → ReaderState
    → Result (Bor (List ℕ)) E → ReaderState → Type 0
NextAnswer {T} converts reads s (Ok octets) t = (v : T) × ItemAnswer converts reads s (Ok v) t
NextAnswer converts reads s (Err e) t = ItemAnswer converts reads s (Err e) t

-- elements are read up to the end, or up to the first error
pub data WalkAnswer {T E : Type 0} (converts : Error → E → Type 0)
    (reads : ReaderState → Result T E → ReaderState → Type 0) (result : Result (Unit {0}) E)
    : ReaderState → Type 0 where
  walk_ends : {s : ReaderState} → s.end ≡ s.position → result ≡ Ok tt
      → WalkAnswer converts reads result s
  items_continue : {s : ReaderState} (t : ReaderState) (v : T) → (s.end ≡ s.position → ⊥)
      → ItemAnswer converts reads s (Ok v) t → WalkAnswer converts reads result t
      → WalkAnswer converts reads result s
  walk_refused : {s : ReaderState} (t : ReaderState) (e : E) → (s.end ≡ s.position → ⊥)
      → ItemAnswer converts reads s (Err e) t → result ≡ Err e
      → WalkAnswer converts reads result s

-- the result of reading all items of these contents
abbrev pub ListWalked : {T E : Type 0} → (Error → E → Type 0)
    → (ReaderState → Result T E → ReaderState → Type 0) → Result (Unit {0}) E → List ℕ → Type 0
ListWalked converts reads result octets =
    WalkAnswer converts reads result (initial_state Der octets)

-- elements are read up to the end, or up to the first error; an element that is smaller than the
-- one before it is an error at its start (X.690 11.6); the first one is compared with the octets
-- `next`
pub data SetAnswer {T E : Type 0} (converts : Error → E → Type 0)
    (reads : ReaderState → Result T E → ReaderState → Type 0) (result : Result (Unit {0}) E)
    : List ℕ → ReaderState → Type 0 where
  set_ends : {next : List ℕ} {s : ReaderState} → s.end ≡ s.position → result ≡ Ok tt
      → SetAnswer converts reads result next s
  set_continues : {next : List ℕ} {s : ReaderState} (element : List ℕ) (t : ReaderState) (v : T)
      → (s.end ≡ s.position → ⊥) → ItemAnswer converts reads s (Ok v) t
      → rest_of s ≡ element ++ rest_of t → (IsBefore element next → ⊥)
      → SetAnswer converts reads result element t → SetAnswer converts reads result next s
  set_refused : {next : List ℕ} {s : ReaderState} (t : ReaderState) (e : E)
      → (s.end ≡ s.position → ⊥) → ItemAnswer converts reads s (Err e) t → result ≡ Err e
      → SetAnswer converts reads result next s
  set_disordered : {next : List ℕ} {s : ReaderState} (element : List ℕ) (t : ReaderState) (v : T)
      (e : E) → (s.end ≡ s.position → ⊥) → ItemAnswer converts reads s (Ok v) t
      → rest_of s ≡ element ++ rest_of t → IsBefore element next
      → converts (error_at SetOrdering (reader_position s)) e → result ≡ Err e
      → SetAnswer converts reads result next s

-- the result of reading all items up to the end of a reader as a set, and of reading all items of
-- these contents
abbrev pub SetWalkAnswer : {T E : Type 0} → (Error → E → Type 0)
    → (ReaderState → Result T E → ReaderState → Type 0) → Result (Unit {0}) E → ReaderState
    → Type 0
SetWalkAnswer converts reads result s = SetAnswer converts reads result [] s

abbrev pub SetWalked : {T E : Type 0} → (Error → E → Type 0)
    → (ReaderState → Result T E → ReaderState → Type 0) → Result (Unit {0}) E → List ℕ → Type 0
SetWalked converts reads result octets =
    SetWalkAnswer converts reads result (initial_state Der octets)

-- a reader at the same position of the input, up to the end of n octets, outside all nested parts
abbrev pub part_state : ReaderState → ℕ → ReaderState
part_state s n = record s { end = s.position + n; depth = 0 }

-- a reader of n octets, which are borrowed; under DER it can read items
pub record IsPart (s : ReaderState) (n : ℕ) (part : ReaderState) (octets : List ℕ) : Type 0 where
  pub state : part ≡ part_state s n
  pub all : rest_of part ≡ octets
  pub at : s.rules ≡ Der → IsAtItem part
  pub short : length octets < 2 ^ 32

-- the result of reading the items in contents of n octets. Under DER they are read where they are
-- in the input, so that positions of errors count from its start (`inside`); under BER they are
-- read from the contents as from an input of their own (`alone`)
abbrev pub ContentsWalked : {E : Type 0} → (Result (Unit {0}) E → ReaderState → Type 0)
    → (Result (Unit {0}) E → List ℕ → Type 0) → EncodingRules → ReaderState → ℕ → List ℕ
    → Result (Unit {0}) E → Type 0
ContentsWalked inside alone Der s n octets result = inside result (part_state s n)
ContentsWalked inside alone Ber s n octets result = alone result octets

-- the contents are borrowed, and their items are read
pub data ListRead {B E : Type 0} (converts : Error → E → Type 0)
    (inside : Result (Unit {0}) E → ReaderState → Type 0)
    (alone : Result (Unit {0}) E → List ℕ → Type 0) (octets_of : B → List ℕ) (h : Head)
    (s : ReaderState) (result : Result B E) (t : ReaderState) : Type 0 where
  list_unread : (e : Error) (f : E) → Gives (read_slice_outcome (number h.length)) s (Err e) t
      → converts e f → result ≡ Err f → ListRead converts inside alone octets_of h s result t
  list_refused : (octets : List ℕ) (e : E)
      → Gives (read_slice_outcome (number h.length)) s (Ok octets) t
      → ContentsWalked inside alone s.rules s (number h.length) octets (Err e) → result ≡ Err e
      → ListRead converts inside alone octets_of h s result t
  list_read : (v : B) → Gives (read_slice_outcome (number h.length)) s (Ok (octets_of v)) t
      → ContentsWalked inside alone s.rules s (number h.length) (octets_of v) (Ok tt)
      → result ≡ Ok v → ListRead converts inside alone octets_of h s result t
