use Rattle.std.proofs.Common.{◌≡◌, Ok, take, length}
use Rattle.der.specs.Prelude.{checked_length}
use Rattle.example_calls.specs.AscendingStrings.{octets_of, joined_strings}
use Rattle.example_calls.proofs.set_of.encoded_len_of.Given as goal

abbrev pub invariant-loop-element : goal.invariant-loop-element
invariant-loop-element l = Ok l.len ≡ checked_length (length (joined_strings (octets_of (take l.element-index l.elements))))
