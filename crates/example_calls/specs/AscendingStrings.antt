-- A SET OF OCTET STRING, whose elements are in the order of their encodings (X.690 8.12, 11.6).
use Rattle.std.specs.Prelude.{◌≡◌, ℕ, ◌+◌, ◌≤◌, false, List, [], ◌∷◌, ◌++◌, length, map, Result, Ok, Err, OnOk}
use Rattle.std.specs.List.{flat_map}
use Rattle.der.specs.Prelude.{error_at, definite_length, IsBefore, Der, Error, OctetString, Set, element_octets, ReaderState, Reads, rest_of}
use Rattle.der.specs.ErrorKinds.{SetOrdering}
use Rattle.der.specs.BorrowedOctets.{borrowed_octets}
use Rattle.der.specs.declared.example.borrowed_octets.BorrowedOctets.{BorrowedOctets}

-- the encoding of an OCTET STRING of these octets (8.7)
abbrev pub string_octets : List ℕ → List ℕ
string_octets = element_octets OctetString

-- the octets of each OCTET STRING
abbrev pub octets_of : List BorrowedOctets → List (List ℕ)
octets_of = map borrowed_octets

-- the encodings of OCTET STRINGs, in sequence
abbrev pub joined_strings : List (List ℕ) → List ℕ
joined_strings = flat_map string_octets

-- the encoding of a SET OF OCTET STRINGs in this order (8.12)
abbrev pub set_octets : List (List ℕ) → List ℕ
set_octets strings = element_octets Set (joined_strings strings)

-- the OCTET STRING y may follow x: its encoding does not come before that of x (11.6)
abbrev pub MayFollow : List ℕ → List ℕ → Type 0
MayFollow x y = IsBefore (string_octets y) (string_octets x) → ⊥

-- each OCTET STRING may follow the one before it
abbrev pub StringsAscend : List (List ℕ) → Type 0
StringsAscend [] = Unit {0}
StringsAscend (x ∷ []) = Unit {0}
StringsAscend (x ∷ y ∷ more) = MayFollow x y × StringsAscend (y ∷ more)

-- the result for OCTET STRINGs whose encodings begin at a position: `answer` if they ascend, else
-- the position of the first that may not follow the one before it
pub data OrderAnswer {A : Type 0} (begins : ℕ) (strings : List (List ℕ)) (answer : A)
    (result : Result A Error) : Type 0 where
  ascending : StringsAscend strings → result ≡ Ok answer → OrderAnswer begins strings answer result
  falling : (front following : List (List ℕ)) (x y : List ℕ) → strings ≡ front ++ x ∷ y ∷ following
      → StringsAscend (front ++ x ∷ []) → IsBefore (string_octets y) (string_octets x)
      → result ≡ Err (error_at SetOrdering
      (definite_length (begins + length (joined_strings (front ++ x ∷ [])))))
      → OrderAnswer begins strings answer result

-- a reader under the Distinguished Encoding Rules that has not failed, with that many levels of
-- nesting left
pub record IsReady (levels : ℕ) (s : ReaderState) : Type 0 where
  pub der : s.rules ≡ Der
  pub working : s.failed ≡ false
  pub shallow : s.depth + levels ≤ 64

-- the encodings of OCTET STRINGs were read between two states, and they ascend
pub record ReadsAscending (s t : ReaderState) : Type 0 where
  pub strings : List (List ℕ)
  pub ascend : StringsAscend strings
  pub reads : Reads s t (joined_strings strings)

-- a reader consumes the encodings of OCTET STRINGs up to its end: it consumes only ascending ones,
-- and the result for those in its input depends on their order
pub record PassesStrings (s : ReaderState) (result : Result (Unit {0}) Error) (t : ReaderState)
    : Type 0 where
  pub ok : OnOk result (ReadsAscending s t × (t.end ≡ t.position))
  pub exact : (strings : List (List ℕ)) → rest_of s ≡ joined_strings strings
      → OrderAnswer s.position strings tt result
