use Rattle.x509_path.proofs.SignedLemmas.{last_of, some_certificate}
use Rattle.x509_path.proofs.valid_path.ValidPath.certificate.Goals as goal

pub returns : goal.returns
returns c =
    let s = c.args.self.now in
    last_of s.path.now _ (some_certificate s.inputs.now s.path.now s.keeps)
