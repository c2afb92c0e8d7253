use Rattle.std.proofs.Common.{◌≡◌, ◌∙◌, Bool, true, false, ℕ, ap, subst, below_more, arith}
use mathlib.Core.Bool.{beq}
use Rattle.schema_types.specs.NodeKind.{is_choice}
use Rattle.schema_types.specs.Table.{table_in}
use Rattle.schema_types.specs.Distinct.{IsDistinct}
use Rattle.schema_types.specs.declared.node.Node.{Node}
use Rattle.schema_types.proofs.RowLemmas.{node_there}
use Rattle.schema_types.proofs.TagLemmas.{same_row}
use Rattle.schema_types.proofs.distinct.check_nodes.Goals.{then-is_choice-choices+in_ok-check_node, else-is_choice-choices}
use Rattle.schema_types.proofs.distinct.check_nodes.Goals as goal

differ : (b : Bool) → beq b b ≡ false → ⊥
differ true e = cc
differ false e = cc

pub loop-i-preserved : goal.loop-i-preserved
loop-i-preserved c =
    let t = table_in c.args.rows.now.octets.now in
    below_more _ _ c.loop-i.invariant
    (λ n row is.
    let same = same_row t.nodes c.loop-i.i c.node-node.ensures.value row in
    let kind : is_choice c.node-node.result.kind ≡ c.args.choices = ap (λ (x : Node). is_choice x.kind) same ∙ is in
    elim c.if-is_choice-choices.branch [
      | then-is_choice-choices+in_ok-check_node w ↦ subst (λ (x : Node). (k : ℕ) → IsDistinct t x k) same w.in_ok-check_node.ensures.ok
      | else-is_choice-choices w ↦ absurd (differ c.args.choices (rw (c.is_choice.ensures, kind) at w.if-is_choice-choices.false))
    ])

pub returns-clause-ok : goal.returns-clause-ok
returns-clause-ok c i n row is =
    let there = node_there c.args.rows.now.octets.now i c.args.rows.now.counted row in
    c.loop-i.invariant i (omega arith) n row is
