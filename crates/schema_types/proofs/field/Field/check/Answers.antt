use Rattle.std.proofs.Common.{◌≤◌, ◌∙◌, sym, ap, subst, not, length}
use Rattle.schema_types.specs.Presence.{presence_at, default_room}
use Rattle.schema_types.specs.Span.{IsWithin}
use Rattle.schema_types.specs.Pool.{IsText}
use Rattle.schema_types.specs.Field.{unknown_presence, no_field_name, no_field_node, no_default}
use Rattle.schema_types.specs.declared.field.Field.{Field}
use Rattle.schema_types.proofs.TestLemmas.{refuted, nothing}
use Rattle.schema_types.proofs.field.Field.check.Goals as goal

pub returns-then-is_none-clause-fault : goal.returns-then-is_none-clause-fault
returns-then-is_none-clause-fault c =
    rw c.new.ensures (unknown_presence (sym (c.from_number.ensures ∙ ap presence_at c.number_at.ensures) ∙ nothing (c.is_none.ensures ∙ ap not c.if-is_none.true)))

pub returns-then-not-is_text-clause-fault : goal.returns-then-not-is_text-clause-fault
returns-then-not-is_text-clause-fault c =
    rw c.new-then-not-is_text.ensures (no_field_name (subst (λ (f : Field). IsText c.args.pool.now f.name → ⊥) c.read-field.ensures (refuted c.is_text.ensures c.if-not-is_text.true)))

pub returns-then-field-counts-clause-fault : goal.returns-then-field-counts-clause-fault
returns-then-field-counts-clause-fault c =
    rw c.new-then-field-counts.ensures (no_field_node (subst (λ (f : Field). c.args.counts.nodes ≤ f.node) c.read-field.ensures c.if-field-counts.true))

pub returns-then-not-is_within-clause-fault : goal.returns-then-not-is_within-clause-fault
returns-then-not-is_within-clause-fault c =
    let room = c.default_room.ensures in
    rw c.new-then-not-is_within.ensures (no_default (subst (λ (f : Field). IsWithin f.default (default_room (length c.args.pool.now) f.presence) → ⊥) c.read-field.ensures (λ w. refuted c.is_within.ensures c.if-not-is_within.true (rw room w))))
