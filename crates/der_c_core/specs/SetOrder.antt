-- Spans in the order of a SET OF (`SpansAscend`; X.690 11.6): no encoding comes before that of the
-- element in front of it.
use Rattle.std.specs.Prelude.{List, [], ◌∷◌}
use Rattle.der_base.specs.Order.{IsBefore}
use Rattle.der_c_core.specs.declared.span.DerSpan.{DerSpan}

-- the element y may follow x
abbrev pub MayFollow : DerSpan → DerSpan → Type 0
MayFollow x y = IsBefore y.octets.now x.octets.now → ⊥

-- each element may follow the one before it
abbrev pub SpansAscend : List DerSpan → Type 0
SpansAscend [] = Unit {0}
SpansAscend (x ∷ []) = Unit {0}
SpansAscend (x ∷ y ∷ more) = MayFollow x y × SpansAscend (y ∷ more)
