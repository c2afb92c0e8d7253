use Rattle.std.proofs.Common.{◌↔◌, ℕ, All}
use Rattle.path_rules.specs.Path.{HasRoom}
use Rattle.x509_path.specs.PathLimits.{Allows}
use Rattle.x509_path.proofs.limit.least_limit.Given as goal

abbrev pub invariant-extensions : goal.invariant-extensions
invariant-extensions l = (n : ℕ) → HasRoom l.limit n ↔ All (Allows n) l.yielded
