use Rattle.std.proofs.Common.{arith}
use Rattle.x509_path.proofs.SignedLemmas.{signed_exactly, unsigned_exactly}
use Rattle.x509_path.specs.declared.unsigned.Unsigned.TheVariants.{Failed, TooFew, TooMany}
use Rattle.x509_path.proofs.if_signed.IfSigned.with_verdicts.Goals as goal

pub returns-then-verdicts-self-clause-valid : goal.returns-then-verdicts-self-clause-valid
returns-then-verdicts-self-clause-valid c =
    λ verify are. unsigned_exactly verify c.args.self.inputs.now c.args.self.path.now c.args.verdicts.now TooFew (omega (arith, c.if-verdicts-self.true)) are

pub returns-then-verdicts-self-2-clause-valid : goal.returns-then-verdicts-self-2-clause-valid
returns-then-verdicts-self-2-clause-valid c =
    λ verify are. unsigned_exactly verify c.args.self.inputs.now c.args.self.path.now c.args.verdicts.now TooMany (omega (arith, c.if-verdicts-self-2.true)) are

pub returns-in-Some-clause-valid : goal.returns-in-Some-clause-valid
returns-in-Some-clause-valid c =
    λ verify are. unsigned_exactly verify c.args.self.inputs.now c.args.self.path.now c.args.verdicts.now (Failed c.in-Some.at) (omega (arith, c.if-verdicts-self.false, c.if-verdicts-self-2.false), c.in-Some.ensures) are

pub returns-in-None-clause-valid : goal.returns-in-None-clause-valid
returns-in-None-clause-valid c =
    λ verify are. signed_exactly verify c.args.self.inputs.now c.args.self.path.now c.args.verdicts.now c.args.self.keeps c.in-None.ensures are
