use Rattle.std.proofs.Common.{◌≡◌, ◌<◌, ◌^◌}
use Rattle.der_c_x509.specs.Known.{first_bits}
use Rattle.der_c_x509.proofs.key_usage.named_bits_of.Given as goal

abbrev pub invariant-loop-n : goal.invariant-loop-n
invariant-loop-n l = (l.bits ≡ first_bits l.n l.usage.octets.now) × (l.bits < 2 ^ l.n)
