-- Written by asn1_compile: change the module instead.
use Rattle.cms.proofs.asn1.recipient_info.RecipientInfoEncode.encode.Goals as goal

pub returns-in-Ktri-clause-ok : goal.returns-in-Ktri-clause-ok
returns-in-Ktri-clause-ok g c = rw c.in-Ktri.is c.encode.ensures.ok

pub returns-in-Ktri-clause-succeeds : goal.returns-in-Ktri-clause-succeeds
returns-in-Ktri-clause-succeeds g c = rw c.in-Ktri.is c.encode.ensures.succeeds

pub returns-in-Kari-clause-ok : goal.returns-in-Kari-clause-ok
returns-in-Kari-clause-ok g c = rw c.in-Kari.is c.encode-in-Kari.ensures.ok

pub returns-in-Kari-clause-succeeds : goal.returns-in-Kari-clause-succeeds
returns-in-Kari-clause-succeeds g c = rw c.in-Kari.is c.encode-in-Kari.ensures.succeeds

pub returns-in-Kekri-clause-ok : goal.returns-in-Kekri-clause-ok
returns-in-Kekri-clause-ok g c = rw c.in-Kekri.is c.encode-in-Kekri.ensures.ok

pub returns-in-Kekri-clause-succeeds : goal.returns-in-Kekri-clause-succeeds
returns-in-Kekri-clause-succeeds g c = rw c.in-Kekri.is c.encode-in-Kekri.ensures.succeeds

pub returns-in-Pwri-clause-ok : goal.returns-in-Pwri-clause-ok
returns-in-Pwri-clause-ok g c = rw c.in-Pwri.is c.encode-in-Pwri.ensures.ok

pub returns-in-Pwri-clause-succeeds : goal.returns-in-Pwri-clause-succeeds
returns-in-Pwri-clause-succeeds g c = rw c.in-Pwri.is c.encode-in-Pwri.ensures.succeeds

pub returns-in-Ori-clause-ok : goal.returns-in-Ori-clause-ok
returns-in-Ori-clause-ok g c = rw c.in-Ori.is c.encode-in-Ori.ensures.ok

pub returns-in-Ori-clause-succeeds : goal.returns-in-Ori-clause-succeeds
returns-in-Ori-clause-succeeds g c = rw c.in-Ori.is c.encode-in-Ori.ensures.succeeds
