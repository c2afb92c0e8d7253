use Rattle.std.proofs.Common.{◌≡◌, true, All, take}
use Rattle.x509_path.proofs.if_signed.first_false.Given as goal

abbrev pub invariant-loop-at : goal.invariant-loop-at
invariant-loop-at l = All (λ b. b ≡ true) (take l.at l.verdicts)
