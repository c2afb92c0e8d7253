-- Written by asn1_compile: change the module instead.
use Rattle.cms.proofs.asn1.recipient_info.RecipientInfoEncode.len_before.Goals as goal

pub returns-in-Ktri : goal.returns-in-Ktri
returns-in-Ktri c = rw c.in-Ktri.is c.len_before.ensures

pub returns-in-Kari : goal.returns-in-Kari
returns-in-Kari c = rw c.in-Kari.is c.len_before-in-Kari.ensures

pub returns-in-Kekri : goal.returns-in-Kekri
returns-in-Kekri c = rw c.in-Kekri.is c.len_before-in-Kekri.ensures

pub returns-in-Pwri : goal.returns-in-Pwri
returns-in-Pwri c = rw c.in-Pwri.is c.len_before-in-Pwri.ensures

pub returns-in-Ori : goal.returns-in-Ori
returns-in-Ori c = rw c.in-Ori.is c.len_before-in-Ori.ensures
