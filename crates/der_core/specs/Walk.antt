-- The meaning of a walk over octets by an index: a BER reader at that index.
use Rattle.std.specs.Prelude.{ℕ, ◌+◌, true, false, List, ◌++◌, length, replicate}
use Rattle.der_base.specs.declared.encoding_rules.EncodingRules.TheVariants.{Ber}
use Rattle.der_core.specs.ReaderState.{ReaderState}
use Rattle.der_core.specs.declared.length.indefinite.walk.Walk.{Walk}

-- octets that begin at position `start`, whatever is before them, of which `index` are consumed
abbrev pub walked_state : List ℕ → ℕ → ℕ → ReaderState
walked_state octets start index =
    record {
      input = replicate start 0 ++ octets;
      rules = Ber;
      end = start + length octets;
      position = start + index;
      depth = 0;
      failed = false;
      keeps_failure = true;
    }

-- the meaning of a walk
abbrev pub walk_state : Walk → ReaderState
walk_state w = walked_state w.octets.now w.start w.index
