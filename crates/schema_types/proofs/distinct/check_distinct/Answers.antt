use Rattle.std.proofs.Common.{◌≡◌, Bool, true, false, refl}
use Rattle.schema_types.specs.NodeKind.{is_choice}
use Rattle.schema_types.proofs.distinct.check_distinct.Goals as goal

-- a fact of what is true and of what is not
either : {Fact : Type 0} (b : Bool) → (b ≡ true → Fact) → (b ≡ false → Fact) → Fact
either true when_true when_false = when_true refl
either false when_true when_false = when_false refl

pub returns-clause-ok : goal.returns-clause-ok
returns-clause-ok c i n row =
    either (is_choice n.kind) (c.in_ok-check_nodes.ensures.ok i n row) (c.in_ok-check_nodes-2.ensures.ok i n row)
