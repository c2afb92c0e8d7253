-- Written by asn1_compile: change the module instead.
use Rattle.x509.proofs.asn1.distribution_point_name.DistributionPointNameEncode.encode_before.Goals as goal

pub returns-in-FullName : goal.returns-in-FullName
returns-in-FullName c = rw c.in-FullName.is c.encode_before.ensures

pub returns-in-NameRelativeToCrlIssuer : goal.returns-in-NameRelativeToCrlIssuer
returns-in-NameRelativeToCrlIssuer c = rw c.in-NameRelativeToCrlIssuer.is c.encode_before-in-NameRelativeToCrlIssuer.ensures
