-- The meaning of a reader (`ReaderState`), the states that it may have (`IsSound`), and how a call
-- may change them (`Same`, `Reads`).
use Rattle.std.specs.Prelude.{◌≡◌, ℕ, ◌+◌, ◌-◌, ◌^◌, ◌<◌, ◌≤◌, Bool, true, false, IsTrue, List, ◌++◌, length, take, drop, if◌then◌else◌}
use Rattle.der_base.specs.Length.{definite_length}
use Rattle.der_base.specs.Error.{Refusal}
use Rattle.der_base.specs.declared.length.Length.{Length}
use Rattle.der_base.specs.declared.encoding_rules.EncodingRules.{EncodingRules}

-- an input, its encoding rules, the end up to which it may be read, the position, the nesting
-- depth, and whether reading failed
pub record ReaderState : Type 0 where
  pub input : List ℕ
  pub rules : EncodingRules
  -- the end up to which the input may be read: inside a nested part, the end of that part
  pub end : ℕ
  pub position : ℕ
  pub depth : ℕ
  pub failed : Bool
  -- whether the reader keeps a failed state
  pub keeps_failure : Bool

-- a reader at the start of a whole input
abbrev pub initial_state : EncodingRules → List ℕ → ReaderState
initial_state rules input =
    record {
      input = input;
      rules = rules;
      end = length input;
      position = 0;
      depth = 0;
      failed = false;
      keeps_failure = true;
    }

-- the remaining octets, up to the end
abbrev pub rest_of : ReaderState → List ℕ
rest_of s = take (s.end - s.position) (drop s.position s.input)

-- the position as a length
abbrev pub reader_position : ReaderState → Length
reader_position s = definite_length s.position

abbrev pub advanced_state : ReaderState → ℕ → ReaderState
advanced_state s n = record s { position = s.position + n }

-- inside a nested part of n octets
abbrev pub nested_state : ReaderState → ℕ → ReaderState
nested_state s n = record s { end = s.position + n; depth = s.depth + 1 }

-- outside a nested part again, with this end and depth
abbrev pub resumed_state : ReaderState → ℕ → ℕ → ReaderState
resumed_state s end depth = record s { end = end; depth = depth }

-- at a position, and failed if the reader keeps a failed state
abbrev pub stopped_state : ReaderState → ℕ → ReaderState
stopped_state s at = record s { position = at; failed = s.keeps_failure }

-- the state after this failure
abbrev pub state_after : ReaderState → Refusal → ReaderState
state_after s r =
    record s { position = r.position; failed = if r.fails then s.keeps_failure else s.failed }

-- the laws of every reader
pub record IsSound (s : ReaderState) : Type 0 where
  pub ordered : s.position ≤ s.end
  pub in_input : s.end ≤ length s.input
  pub addressable : length s.input < 2 ^ 32
  pub shallow : s.depth ≤ 64
  pub failure_kept : IsTrue s.failed → IsTrue s.keeps_failure

-- the same reader: not at an earlier position, within its end, and still failed if it had failed
pub record Same (s t : ReaderState) : Type 0 where
  pub input : t.input ≡ s.input
  pub rules : t.rules ≡ s.rules
  pub end : t.end ≡ s.end
  pub depth : t.depth ≡ s.depth
  pub keeps_failure : t.keeps_failure ≡ s.keeps_failure
  pub forward : s.position ≤ t.position
  pub within : t.position ≤ t.end
  pub failed : IsTrue s.failed → IsTrue t.failed

-- exactly these octets were read, and nothing else changed
pub record Reads (s t : ReaderState) (octets : List ℕ) : Type 0 where
  pub split : rest_of s ≡ octets ++ rest_of t
  pub state : t ≡ advanced_state s (length octets)
