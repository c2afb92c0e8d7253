-- Written by asn1_compile: change the module instead.
use Rattle.cms.proofs.asn1.revocation_info_choice.RevocationInfoChoiceEncode.encode.Goals as goal

pub returns-in-Crl-clause-ok : goal.returns-in-Crl-clause-ok
returns-in-Crl-clause-ok g c = rw c.in-Crl.is c.encode.ensures.ok

pub returns-in-Crl-clause-succeeds : goal.returns-in-Crl-clause-succeeds
returns-in-Crl-clause-succeeds g c = rw c.in-Crl.is c.encode.ensures.succeeds

pub returns-in-Other-clause-ok : goal.returns-in-Other-clause-ok
returns-in-Other-clause-ok g c = rw c.in-Other.is c.encode-in-Other.ensures.ok

pub returns-in-Other-clause-succeeds : goal.returns-in-Other-clause-succeeds
returns-in-Other-clause-succeeds g c = rw c.in-Other.is c.encode-in-Other.ensures.succeeds
