use Rattle.std.proofs.Common.{arith}
use Rattle.x509_path.proofs.PolicyNoteLemmas.{notes_length}
use Rattle.x509_path.proofs.judged_policies.judge_policies.Goals as goal

pub returns-then-facts-notes : goal.returns-then-facts-notes
returns-then-facts-notes c path are =
    let same = notes_length c.args.policies.now c.args.mappings.now path c.args.notes.now are in
    omega (arith, same, c.if-facts-notes.true)
