-- Written by asn1_compile: change the module instead.
use Rattle.sec1.proofs.asn1.ec_parameters.EcParametersEncode.encode_before.Goals as goal

pub returns-in-NamedCurve : goal.returns-in-NamedCurve
returns-in-NamedCurve c = rw c.in-NamedCurve.is c.encode_before.ensures

pub returns-in-ImplicitCurve : goal.returns-in-ImplicitCurve
returns-in-ImplicitCurve c = rw c.in-ImplicitCurve.is c.encode_before-in-ImplicitCurve.ensures

pub returns-in-SpecifiedCurve : goal.returns-in-SpecifiedCurve
returns-in-SpecifiedCurve c = rw c.in-SpecifiedCurve.is c.encode_before-in-SpecifiedCurve.ensures
