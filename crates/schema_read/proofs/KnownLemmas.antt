-- The OBJECT IDENTIFIER that chooses an open type is the only one, and so is what it chooses.
use Rattle.std.proofs.Common.{◌≡◌, ℕ, List, [], Option, Some, None, refl, sym, ap, ◌∙◌}
use Rattle.ber.proofs.ElementLemmas.{one_element}
use Rattle.schema_types.specs.declared.node.Node.{Node}
use Rattle.schema_read.specs.Known.{Known, Follows, changed, same}

-- there is one after a component
pub one_follows : {node : Option Node} {k : ℕ} {x : List ℕ} {before a b : Known} → Follows node k x before a → Follows node k x before b → a ≡ b
one_follows {k = k} {x = x} (changed {inner = c} p e) (changed {inner = d} q f) = ap (λ i. Some (k, i)) (one_element [] [] e f refl).1
one_follows (changed p e) (same q) = absurd (q p)
one_follows (same q) (changed p e) = absurd (q p)
one_follows (same p) (same q) = refl

-- the identifier that is known
kept : Known → List ℕ
kept None = []
kept (Some k) = k.1

pub same_identifier : {k l : ℕ} {a b : List ℕ} {known : Known} → known ≡ Some (k, a) → known ≡ Some (l, b) → a ≡ b
unfolding kept
same_identifier e f = ap kept (sym e ∙ f)
