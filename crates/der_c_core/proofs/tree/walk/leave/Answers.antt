use Rattle.std.proofs.Common.{refl, arith}
use Rattle.der_c_core.specs.CReader.{reader_state}
use Rattle.der_c_core.proofs.TreeWalkLemmas.{leaving_walks_nothing}
use Rattle.der_c_core.proofs.tree.walk.leave.Goals as goal

pub returns-clause-walks : goal.returns-clause-walks
returns-clause-walks c =
    let r = c.requires in
    leaving_walks_nothing c.args.around.now _ (reader_state c.args.reader.now) _ r.inside r.at_end r.parts refl refl (omega (arith, r.inside)) refl
