use Rattle.der_tool_lib.proofs.JoinLemmas.{read_joined, refused_joined}
use Rattle.der_tool_lib.proofs.join.read_joined.Goals as goal

pub returns-clause-ok : goal.returns-clause-ok
returns-clause-ok c = read_joined c.args.octets.now c.from_ber.result c.from_ber.ensures.ok c.from_ber.ensures.exact

pub returns-clause-err : goal.returns-clause-err
returns-clause-err c = refused_joined c.args.octets.now c.from_ber.result c.from_ber.ensures.exact
