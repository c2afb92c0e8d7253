use Rattle.std.proofs.Common.{List, ℕ, refl, subst}
use Rattle.x509.specs.CertificateLists.{IsExtension, extension_encoding}
use Rattle.x509.specs.Find.{HasOccurrence}
use Rattle.x509.specs.declared.find.occurrence.Occurrence.TheVariants.{Absent, Once, Several}
use Rattle.x509_path.specs.Names.{IsAltNameVerdict}
use Rattle.x509_path.proofs.verdicts.alternatives_verdict.Goals as goal

pub returns-in-Absent : goal.returns-in-Absent
returns-in-Absent c =
    record {
      found = Absent;
      is_found = subst (λ (o : List ℕ). HasOccurrence IsExtension extension_encoding (λ e. e.extn_id.octets.now) o c.args.extensions.now.items.octets.now Absent) c.id_ce_subject_alt_name.ensures c.in-Absent.ensures;
      is = c.lone_subject_verdict.ensures;
    }

pub returns-in-Once : goal.returns-in-Once
returns-in-Once c =
    record {
      found = Once c.in-Once.found;
      is_found = subst (λ (o : List ℕ). HasOccurrence IsExtension extension_encoding (λ e. e.extn_id.octets.now) o c.args.extensions.now.items.octets.now (Once c.in-Once.found)) c.id_ce_subject_alt_name.ensures c.in-Once.ensures;
      is = subst (λ (o : List ℕ). IsAltNameVerdict c.args.constraints.now c.args.subject.now o c.names_value_verdict.result) c.octets.ensures.value c.names_value_verdict.ensures;
    }

pub returns-in-Several : goal.returns-in-Several
returns-in-Several c =
    record {
      found = Several;
      is_found = subst (λ (o : List ℕ). HasOccurrence IsExtension extension_encoding (λ e. e.extn_id.octets.now) o c.args.extensions.now.items.octets.now Several) c.id_ce_subject_alt_name.ensures c.in-Several.ensures;
      is = refl;
    }
