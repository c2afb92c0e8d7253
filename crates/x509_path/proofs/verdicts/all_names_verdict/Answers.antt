use Rattle.x509_path.proofs.verdicts.all_names_verdict.Goals as goal

pub returns : goal.returns
returns c =
    record {
      subject = c.named_subject_verdict-first.result;
      others = c.names_verdict.result;
      subject_is = c.named_subject_verdict-first.ensures;
      others_are = c.names_verdict.ensures;
      is = c.first_refusal.ensures;
    }
