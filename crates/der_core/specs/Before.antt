-- Octets that end before an index of a buffer. A value is written from the end of a buffer, so that
-- the length of its contents is known when its header is written in front of them (X.690 8.1.1).
use Rattle.std.specs.Prelude.{◌≡◌, ℕ, ◌+◌, ◌^◌, ◌<◌, ◌≤◌, List, ◌++◌, length, take, drop, false, Option, Result, Ok, IfSome}
use Rattle.der_base.specs.Length.{number, definite_length}
use Rattle.der_base.specs.declared.length.Length.{Length}
use Rattle.der_base.specs.declared.error.Error.{Error}
use Rattle.der_core.specs.Writer.{WriterState, HasSpace, appended_state}
use Rattle.der_core.specs.Encode.{WriterAnswer}

-- every writer that has space for the octets accepts them
abbrev pub IsAccepted : WriterAnswer → List ℕ → Type 0
IsAccepted answers octets =
    (s : WriterState) → HasSpace s (length octets) → answers s (Ok tt) (appended_state s octets)

-- it is certain that a value is written as these octets, and n is their number
pub record Certain (condition : Type 0) (size : Result Length Error) (answers : WriterAnswer)
    (octets : List ℕ) (n : ℕ) : Type 0 where
  pub encodable : condition
  pub counted : n ≡ length octets
  pub sized : size ≡ Ok (definite_length n)
  pub accepted : IsAccepted answers octets

-- if there is a result, it is the number of octets as which a value is certainly written
abbrev pub CertainIfSome : Type 0 → Result Length Error → WriterAnswer → List ℕ → Option ℕ → Type 0
CertainIfSome condition size answers octets result =
    IfSome result (Certain condition size answers octets)

-- the number of the octets is known, and is that of the size
pub record HasCount (size : Result Length Error) (octets : List ℕ) (n : ℕ) : Type 0 where
  pub len : Length
  pub sized : size ≡ Ok len
  pub same : number len ≡ n
  pub counted : n ≡ length octets
  pub countable : n < 2 ^ 32

-- the buffer has the octets from `start` to `stop`, and is unchanged before `start` and from `stop` on
pub record Placed (octets : List ℕ) (start stop : ℕ) (old new : List ℕ) : Type 0 where
  pub ends : start + length octets ≡ stop
  pub before : take start new ≡ take start old
  pub placed : drop start new ≡ octets ++ drop stop old
  pub as_long : length new ≡ length old

-- if they fit before `stop`, the buffer has the octets there
abbrev pub PlacedIfSpace : List ℕ → ℕ → ℕ → List ℕ → List ℕ → Type 0
PlacedIfSpace octets start stop old new =
    length octets ≤ stop → stop ≤ length old → Placed octets start stop old new

-- a writer into n octets of a buffer, from `start` on
abbrev pub inner_state : List ℕ → ℕ → ℕ → ℕ → WriterState
inner_state buffer reference start n =
    record {
      octets = take start buffer;
      following = drop start buffer;
      start = start;
      stop = start + n;
      capacity = length buffer;
      failed = false;
      reference = reference;
    }
