use Rattle.std.proofs.Common.{◌≡◌, length, map}
use Rattle.x509_path.specs.PolicyFactsOf.{mapping_octets, pair_of}
use Rattle.x509_path.specs.PolicyRooms.{Puts}
use Rattle.x509_path.proofs.policy_lists.put_pairs.Given as goal

abbrev pub invariant-mappings : goal.invariant-mappings
invariant-mappings l = (length l.room ≡ length l.fn.room) × Puts mapping_octets l.fn.room l.room l.fn.start l.end (map pair_of l.yielded)
