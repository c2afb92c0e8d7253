use Rattle.std.proofs.Common.{ℕ, List, Bor, ap, sym, ◌∙◌}
use Rattle.x509_build.specs.Pools.{IsSame}
use Rattle.x509_build.proofs.issuing.is_same.Goals as goal

pub returns : goal.returns
unfolding IsSame
returns c =
    let first = ap (λ (o : Bor (List ℕ)). o.now) c.octets.ensures in
    let second = ap (λ (o : Bor (List ℕ)). o.now) c.octets-2.ensures in (
      λ h. sym first ∙ (c.are_equal.ensures.0 h ∙ second),
      λ h. c.are_equal.ensures.1 (first ∙ (h ∙ sym second)),
    )
