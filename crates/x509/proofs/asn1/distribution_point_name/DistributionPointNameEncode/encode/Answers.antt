-- Written by asn1_compile: change the module instead.
use Rattle.x509.proofs.asn1.distribution_point_name.DistributionPointNameEncode.encode.Goals as goal

pub returns-in-FullName-clause-ok : goal.returns-in-FullName-clause-ok
returns-in-FullName-clause-ok g c = rw c.in-FullName.is c.encode.ensures.ok

pub returns-in-FullName-clause-succeeds : goal.returns-in-FullName-clause-succeeds
returns-in-FullName-clause-succeeds g c = rw c.in-FullName.is c.encode.ensures.succeeds

pub returns-in-NameRelativeToCrlIssuer-clause-ok : goal.returns-in-NameRelativeToCrlIssuer-clause-ok
returns-in-NameRelativeToCrlIssuer-clause-ok g c = rw c.in-NameRelativeToCrlIssuer.is c.encode-in-NameRelativeToCrlIssuer.ensures.ok

pub returns-in-NameRelativeToCrlIssuer-clause-succeeds : goal.returns-in-NameRelativeToCrlIssuer-clause-succeeds
returns-in-NameRelativeToCrlIssuer-clause-succeeds g c = rw c.in-NameRelativeToCrlIssuer.is c.encode-in-NameRelativeToCrlIssuer.ensures.succeeds
