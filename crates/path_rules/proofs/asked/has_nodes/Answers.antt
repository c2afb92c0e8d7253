use Rattle.std.proofs.Common.{◌≡◌, false, refl, true}
use Rattle.path_rules.proofs.AskedLemmas.{no_nodes, some_nodes}
use Rattle.path_rules.proofs.asked.has_nodes.Goals as goal

pub returns-then-nodes-eq0 : goal.returns-then-nodes-eq0
returns-then-nodes-eq0 c =
    (λ e. absurd (let contrary : false ≡ true = e in cc), λ h. absurd (no_nodes c.args.nodes.now c.if-nodes-eq0.true h))

pub returns : goal.returns
returns c = (λ _. some_nodes c.args.nodes.now c.if-nodes-eq0.false, λ _. refl)
