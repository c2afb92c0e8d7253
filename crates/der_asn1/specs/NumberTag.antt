-- The tags of numbers: INTEGER (X.690 8.3) and ENUMERATED (8.4).
use Rattle.std.specs.Prelude.{◌^◌, ◌<◌, Bool, true, false}
use Rattle.std.proofs.Common.{arith}
use Rattle.der.specs.Prelude.{Tag, Integer, Enumerated}
use Rattle.der.specs.Tag.{label}

abbrev pub number_tag : Bool → Tag
number_tag true = Enumerated
number_tag false = Integer

pub number_tag_fits : (is_enumerated : Bool) → (label (number_tag is_enumerated)).number < 2 ^ 32
number_tag_fits true = omega arith
number_tag_fits false = omega arith
