use Rattle.std.proofs.Common.{◌≡◌, ◌+◌, ◌++◌, List, length, subst, take}
use Rattle.x509_path.specs.declared.certificate.PathCertificate.{PathCertificate}
use Rattle.x509_build.proofs.room.put_one.Goals as goal

pub returns : goal.returns
returns c =
    subst (λ (l : List PathCertificate). take (c.args.at + length l) c.put.new.room ≡ take c.args.at c.args.room.now ++ l) c.from_ref.ensures.value c.put.ensures
