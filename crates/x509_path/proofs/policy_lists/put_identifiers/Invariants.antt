use Rattle.std.proofs.Common.{◌≡◌, length, map}
use Rattle.x509_path.specs.PolicyFactsOf.{policy_octets, policy_of}
use Rattle.x509_path.specs.PolicyRooms.{Puts}
use Rattle.x509_path.proofs.policy_lists.put_identifiers.Given as goal

abbrev pub invariant-policies : goal.invariant-policies
invariant-policies l = (length l.room ≡ length l.fn.room) × Puts policy_octets l.fn.room l.room l.fn.start l.end (map policy_of l.yielded)
