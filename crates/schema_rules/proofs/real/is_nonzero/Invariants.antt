use Rattle.std.proofs.Common.{◌≡◌, drop}
use Rattle.schema_rules.specs.Real.{is_nonzero}
use Rattle.schema_rules.proofs.real.is_nonzero.Given as goal

abbrev pub invariant-loop-octet : goal.invariant-loop-octet
invariant-loop-octet l = is_nonzero l.octets ≡ is_nonzero (drop l.octet-index l.octets)
