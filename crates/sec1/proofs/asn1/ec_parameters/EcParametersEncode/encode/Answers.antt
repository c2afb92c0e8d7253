-- Written by asn1_compile: change the module instead.
use Rattle.sec1.proofs.asn1.ec_parameters.EcParametersEncode.encode.Goals as goal

pub returns-in-NamedCurve-clause-ok : goal.returns-in-NamedCurve-clause-ok
returns-in-NamedCurve-clause-ok g c = rw c.in-NamedCurve.is c.encode.ensures.ok

pub returns-in-NamedCurve-clause-succeeds : goal.returns-in-NamedCurve-clause-succeeds
returns-in-NamedCurve-clause-succeeds g c = rw c.in-NamedCurve.is c.encode.ensures.succeeds

pub returns-in-ImplicitCurve-clause-ok : goal.returns-in-ImplicitCurve-clause-ok
returns-in-ImplicitCurve-clause-ok g c = rw c.in-ImplicitCurve.is c.encode-in-ImplicitCurve.ensures.ok

pub returns-in-ImplicitCurve-clause-succeeds : goal.returns-in-ImplicitCurve-clause-succeeds
returns-in-ImplicitCurve-clause-succeeds g c = rw c.in-ImplicitCurve.is c.encode-in-ImplicitCurve.ensures.succeeds

pub returns-in-SpecifiedCurve-clause-ok : goal.returns-in-SpecifiedCurve-clause-ok
returns-in-SpecifiedCurve-clause-ok g c = rw c.in-SpecifiedCurve.is c.encode-in-SpecifiedCurve.ensures.ok

pub returns-in-SpecifiedCurve-clause-succeeds : goal.returns-in-SpecifiedCurve-clause-succeeds
returns-in-SpecifiedCurve-clause-succeeds g c = rw c.in-SpecifiedCurve.is c.encode-in-SpecifiedCurve.ensures.succeeds
