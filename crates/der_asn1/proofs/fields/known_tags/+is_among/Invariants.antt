use Rattle.std.proofs.Common.{length}
use Rattle.der_asn1.proofs.fields.known_tags.+is_among.Given as goal

abbrev pub decreases-is_among : goal.decreases-is_among
decreases-is_among l = length l.tags.now
