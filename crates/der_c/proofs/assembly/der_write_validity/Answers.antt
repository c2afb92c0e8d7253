use Rattle.std.proofs.Common.{rules, w64}
use Rattle.std.proofs.lemmas.Int.{to_z-of_z}
use Rattle.der_c.proofs.assembly.der_write_validity.Goals as goal

pub returns-clause-writes : goal.returns-clause-writes
returns-clause-writes c =
    rw (to_z-of_z w64 c.args.not_before (search rules), to_z-of_z w64 c.args.not_after (search rules)) at c.der_write_validity.ensures.writes
