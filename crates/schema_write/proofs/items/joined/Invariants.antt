use Rattle.std.proofs.Common.{◌≡◌, ◌++◌, map, drop}
use Rattle.std.specs.List.{concat}
use Rattle.schema_write.proofs.items.joined.Given as goal

abbrev pub invariant-loop-part : goal.invariant-loop-part
invariant-loop-part l = l.out.items ++ concat (map (λ v. v.items) (drop l.part-index l.parts)) ≡ concat (map (λ v. v.items) l.parts)
