use Rattle.std.proofs.Common.{ap, sym, ◌∙◌}
use Rattle.ber.specs.Universal.{universal_at}
use Rattle.ber.proofs.UniversalLemmas.{found_by_number, number_found}
use Rattle.ber.proofs.laws.universal_numbers.Goals as goal

pub returns : goal.returns
returns c n u = (number_found n u, λ e. ap universal_at (sym e) ∙ found_by_number u)
