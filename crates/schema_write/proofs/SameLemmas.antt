-- Values of nodes, and what they are written as.
use Rattle.std.proofs.Common.{◌≡◌, ℕ, zero, suc, ◌-◌, ◌<◌, List, Option, subst, slice_get, Some, arith}
use Rattle.schema_types.specs.Table.{Table}
use Rattle.schema_types.specs.Tags.{IsSelected}
use Rattle.schema_types.specs.declared.node.Node.{Node}
use Rattle.der_base.specs.declared.tag.class.Class.{Class}
use Rattle.schema_read.specs.Known.{Known}
use Rattle.schema_write.specs.Same.{IsSame, IsNodeSame}

-- what the selected node is written as, the value is
pub selected_same : (t : Table) (d : ℕ) (known : Known) (i m : ℕ) (x w : List ℕ) {via : Option ℕ} {class : Class} {number : ℕ} → 0 < d
    → IsSelected t i class number via m
    → ((n : Node) → slice_get t.nodes m ≡ Some n → IsNodeSame t (IsSame t (d - 1)) known n x w)
    → IsSame t d known i x w
unfolding IsSame
selected_same t zero known i m x w {via} some sel f = absurd (omega arith)
selected_same t (suc d) known i m x w {via} some sel f =
    let e : suc d - 1 ≡ d = omega arith in (
      via,
      m,
      record {
        node = sel.node;
        selects = sel.selects;
        row = sel.row;
        fact = subst (λ k. IsNodeSame t (IsSame t k) known sel.node x w) e (f sel.node sel.row);
      },
    )
