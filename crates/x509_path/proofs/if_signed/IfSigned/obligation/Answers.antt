use Rattle.std.proofs.Common.{arith}
use Rattle.x509_path.proofs.SignedLemmas.{obligation_at}
use Rattle.x509_path.proofs.if_signed.IfSigned.obligation.Goals as goal

pub returns : goal.returns
returns c =
    obligation_at c.args.self.now.inputs.now c.args.self.now.path.now c.args.at _ c.obligation_of.result (omega (arith, c.if-at-self.false)) c.obligation_of.ensures
