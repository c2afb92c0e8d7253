-- The octets of spans, one after another (`joined_spans`).
use Rattle.std.specs.Prelude.{ℕ, List, [], ◌∷◌, ◌++◌}
use Rattle.der_c_core.specs.declared.span.DerSpan.{DerSpan}

abbrev pub joined_spans : List DerSpan → List ℕ
joined_spans [] = []
joined_spans (x ∷ more) = x.octets.now ++ joined_spans more
