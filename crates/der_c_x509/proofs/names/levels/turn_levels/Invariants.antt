use Rattle.std.proofs.Common.{◌≤◌}
use Rattle.der_c_x509.proofs.names.levels.turn_levels.Given as goal

abbrev pub invariant-octets : goal.invariant-octets
invariant-octets l = l.start ≤ l.at
