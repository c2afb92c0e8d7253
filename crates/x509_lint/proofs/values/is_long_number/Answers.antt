use Rattle.std.proofs.Common.{◌<◌, List, ℕ, length}
use Rattle.der.specs.Prelude.{Integer}
use Rattle.x509_lint.proofs.ElementLemmas.{of_some_contents}
use Rattle.x509_lint.proofs.values.is_long_number.Goals as goal

pub returns-in-Some : goal.returns-in-Some
returns-in-Some c =
    of_some_contents (λ (x : List ℕ). 20 < length x) c.args.octets.now Integer c.in-Some.contents.now c.is_longer_than_20.result c.in-Some.ensures.some c.is_longer_than_20.ensures
