-- Written by asn1_compile: change the module instead.
use Rattle.cms.proofs.asn1.recipient_info.RecipientInfoEncode.encode_before.Goals as goal

pub returns-in-Ktri : goal.returns-in-Ktri
returns-in-Ktri c = rw c.in-Ktri.is c.encode_before.ensures

pub returns-in-Kari : goal.returns-in-Kari
returns-in-Kari c = rw c.in-Kari.is c.encode_before-in-Kari.ensures

pub returns-in-Kekri : goal.returns-in-Kekri
returns-in-Kekri c = rw c.in-Kekri.is c.encode_before-in-Kekri.ensures

pub returns-in-Pwri : goal.returns-in-Pwri
returns-in-Pwri c = rw c.in-Pwri.is c.encode_before-in-Pwri.ensures

pub returns-in-Ori : goal.returns-in-Ori
returns-in-Ori c = rw c.in-Ori.is c.encode_before-in-Ori.ensures
