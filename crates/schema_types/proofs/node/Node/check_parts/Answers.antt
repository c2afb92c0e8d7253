use Rattle.std.proofs.Common.{◌≡◌, ◌∙◌, ◌<◌, ◌≤◌, true, sym, subst, arith}
use Rattle.schema_types.specs.NodeKind.{parts_room, is_choice}
use Rattle.schema_types.specs.Span.{IsWithin}
use Rattle.schema_types.specs.Pool.{IsText}
use Rattle.schema_types.specs.Node.{room_of, IsInner, no_node_name, no_inner, no_parts, no_alternative, no_limits, no_chooser}
use Rattle.schema_types.specs.declared.node.Node.{Node}
use Rattle.schema_types.proofs.TestLemmas.{refuted}
use Rattle.schema_types.proofs.node.Node.check_parts.Goals as goal

pub returns-then-not-is_text-clause-fault : goal.returns-then-not-is_text-clause-fault
returns-then-not-is_text-clause-fault c =
    rw c.new.ensures (no_node_name (subst (λ (n : Node). IsText c.args.pool.now n.name → ⊥) c.read-node.ensures (refuted c.is_text.ensures c.if-not-is_text.true)))

pub returns-then-not-is_inner-clause-fault : goal.returns-then-not-is_inner-clause-fault
returns-then-not-is_inner-clause-fault c =
    rw c.new-then-not-is_inner.ensures (no_inner (subst (λ (n : Node). IsInner n.kind n.inner c.args.counts.nodes → ⊥) c.read-node.ensures (refuted c.is_inner.ensures c.if-not-is_inner.true)))

pub returns-then-not-is_within-clause-fault : goal.returns-then-not-is_within-clause-fault
returns-then-not-is_within-clause-fault c =
    let room = c.parts_room.ensures in
    rw c.new-then-not-is_within.ensures (no_parts (subst (λ (n : Node). IsWithin n.parts (parts_room c.args.counts n.kind) → ⊥) c.read-node.ensures (λ w. refuted c.is_within.ensures c.if-not-is_within.true (rw room w))))

pub returns-then-node-eq0-clause-fault : goal.returns-then-node-eq0-clause-fault
returns-then-node-eq0-clause-fault c =
    let choice : is_choice c.read-node.result.kind ≡ true = sym c.is_choice.ensures ∙ c.if-is_choice.true in
    rw c.new-then-node-eq0.ensures (no_alternative (subst (λ (n : Node). is_choice n.kind ≡ true) c.read-node.ensures choice) (subst (λ (n : Node). n.parts.count < 1) c.read-node.ensures (omega arith)))

pub returns-then-not-is_within-2-clause-fault : goal.returns-then-not-is_within-2-clause-fault
returns-then-not-is_within-2-clause-fault c =
    rw c.new-then-not-is_within-2.ensures (no_limits (subst (λ (n : Node). IsWithin n.limits c.args.counts.limits → ⊥) c.read-node.ensures (refuted c.is_within-2.ensures c.if-not-is_within-2.true)))

pub returns-then-node-chooser_room-clause-fault : goal.returns-then-node-chooser_room-clause-fault
returns-then-node-chooser_room-clause-fault c =
    let room = c.chooser_room.ensures in
    rw c.new-then-node-chooser_room.ensures (no_chooser (subst (λ (n : Node). room_of c.args.counts n ≤ n.chooser) c.read-node.ensures (omega arith)))
