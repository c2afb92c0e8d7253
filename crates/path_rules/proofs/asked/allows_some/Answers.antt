use Rattle.std.proofs.Common.{◌≡◌, false, refl, true}
use Rattle.path_rules.proofs.AskedLemmas.{no_allowed, some_allowed}
use Rattle.path_rules.proofs.asked.allows_some.Goals as goal

pub returns-then-allowed-eq0 : goal.returns-then-allowed-eq0
returns-then-allowed-eq0 c =
    (λ e. absurd (let contrary : false ≡ true = e in cc), λ h. absurd (no_allowed c.args.allowed.now c.if-allowed-eq0.true h))

pub returns : goal.returns
returns c = (λ _. some_allowed c.args.allowed.now c.if-allowed-eq0.false, λ _. refl)
