use Rattle.std.proofs.Common.{refl}
use Rattle.x509.proofs.FindLemmas.{finds_attribute}
use Rattle.x509.proofs.asn1.cert_req_info.CertReqInfo.find_attribute.Goals as goal

pub returns-in-Absent : goal.returns-in-Absent
returns-in-Absent g c = finds_attribute _ c.identifier-oid.ensures _ _ c.in-Absent.ensures refl

pub returns-in-Once : goal.returns-in-Once
returns-in-Once g c = finds_attribute _ c.identifier-oid.ensures _ _ c.in-Once.ensures c.read_attribute.ensures

pub returns-in-Several : goal.returns-in-Several
returns-in-Several g c = finds_attribute _ c.identifier-oid.ensures _ _ c.in-Several.ensures refl
