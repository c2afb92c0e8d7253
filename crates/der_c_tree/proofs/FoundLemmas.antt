-- What a number that stands for a verdict says.
use Rattle.std.proofs.Common.{◌↔◌}

-- one fact holds exactly if another does, by a third
pub both_ways : {A B C : Type 0} → (A ↔ B) → (B ↔ C) → A ↔ C
both_ways f g = ((λ a. g.0 (f.0 a)), (λ c. f.1 (g.1 c)))
