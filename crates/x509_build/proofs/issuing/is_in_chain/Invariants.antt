use Rattle.std.proofs.Common.{◌≤◌, length}
use Rattle.x509_build.proofs.AnyLemmas.{NoneBefore}
use Rattle.x509_build.specs.Pools.{IsAt}
use Rattle.x509_build.proofs.issuing.is_in_chain.Given as goal

abbrev pub invariant-loop-at : goal.invariant-loop-at
invariant-loop-at l = NoneBefore (IsAt l.pool l.certificate) l.chain l.at × (l.at ≤ length l.chain)
