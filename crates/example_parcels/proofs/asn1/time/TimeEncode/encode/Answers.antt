-- Written by asn1_compile: change the module instead.
use Rattle.example_parcels.proofs.asn1.time.TimeEncode.encode.Goals as goal

pub returns-in-Utc-clause-ok : goal.returns-in-Utc-clause-ok
returns-in-Utc-clause-ok g c = rw c.in-Utc.is c.encode.ensures.ok

pub returns-in-Utc-clause-succeeds : goal.returns-in-Utc-clause-succeeds
returns-in-Utc-clause-succeeds g c = rw c.in-Utc.is c.encode.ensures.succeeds

pub returns-in-General-clause-ok : goal.returns-in-General-clause-ok
returns-in-General-clause-ok g c = rw c.in-General.is c.encode-in-General.ensures.ok

pub returns-in-General-clause-succeeds : goal.returns-in-General-clause-succeeds
returns-in-General-clause-succeeds g c = rw c.in-General.is c.encode-in-General.ensures.succeeds

pub returns-in-Unknown-clause-ok : goal.returns-in-Unknown-clause-ok
returns-in-Unknown-clause-ok g c = rw c.in-Unknown.is c.encode-in-Unknown.ensures.ok

pub returns-in-Unknown-clause-succeeds : goal.returns-in-Unknown-clause-succeeds
returns-in-Unknown-clause-succeeds g c = rw c.in-Unknown.is c.encode-in-Unknown.ensures.succeeds
