use Rattle.std.proofs.Common.{◌≡◌, ◌++◌, take}
use Rattle.example_calls.specs.AscendingStrings.{octets_of, joined_strings}
use Rattle.example_calls.proofs.set_of.write_all.Given as goal

abbrev pub invariant-loop-element : goal.invariant-loop-element
invariant-loop-element l = l.out.items ≡ l.fn.out.items ++ joined_strings (octets_of (take l.element-index l.elements))
