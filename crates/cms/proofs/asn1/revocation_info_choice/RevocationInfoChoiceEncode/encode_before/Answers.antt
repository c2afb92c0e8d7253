-- Written by asn1_compile: change the module instead.
use Rattle.cms.proofs.asn1.revocation_info_choice.RevocationInfoChoiceEncode.encode_before.Goals as goal

pub returns-in-Crl : goal.returns-in-Crl
returns-in-Crl c = rw c.in-Crl.is c.encode_before.ensures

pub returns-in-Other : goal.returns-in-Other
returns-in-Other c = rw c.in-Other.is c.encode_before-in-Other.ensures
