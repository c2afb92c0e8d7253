-- Written by asn1_compile: change the module instead.
use Rattle.snmp.proofs.asn1.var_bind_data.VarBindDataEncode.encode.Goals as goal

pub returns-in-Value-clause-ok : goal.returns-in-Value-clause-ok
returns-in-Value-clause-ok g c = rw c.in-Value.is c.encode.ensures.ok

pub returns-in-Value-clause-succeeds : goal.returns-in-Value-clause-succeeds
returns-in-Value-clause-succeeds g c = rw c.in-Value.is c.encode.ensures.succeeds

pub returns-in-UnSpecified-clause-ok : goal.returns-in-UnSpecified-clause-ok
returns-in-UnSpecified-clause-ok g c = rw c.in-UnSpecified.is c.encode-in-UnSpecified.ensures.ok

pub returns-in-UnSpecified-clause-succeeds : goal.returns-in-UnSpecified-clause-succeeds
returns-in-UnSpecified-clause-succeeds g c = rw c.in-UnSpecified.is c.encode-in-UnSpecified.ensures.succeeds

pub returns-in-NoSuchObject-clause-ok : goal.returns-in-NoSuchObject-clause-ok
returns-in-NoSuchObject-clause-ok g c = rw c.in-NoSuchObject.is c.encode-in-NoSuchObject.ensures.ok

pub returns-in-NoSuchObject-clause-succeeds : goal.returns-in-NoSuchObject-clause-succeeds
returns-in-NoSuchObject-clause-succeeds g c = rw c.in-NoSuchObject.is c.encode-in-NoSuchObject.ensures.succeeds

pub returns-in-NoSuchInstance-clause-ok : goal.returns-in-NoSuchInstance-clause-ok
returns-in-NoSuchInstance-clause-ok g c = rw c.in-NoSuchInstance.is c.encode-in-NoSuchInstance.ensures.ok

pub returns-in-NoSuchInstance-clause-succeeds : goal.returns-in-NoSuchInstance-clause-succeeds
returns-in-NoSuchInstance-clause-succeeds g c = rw c.in-NoSuchInstance.is c.encode-in-NoSuchInstance.ensures.succeeds

pub returns-in-EndOfMibView-clause-ok : goal.returns-in-EndOfMibView-clause-ok
returns-in-EndOfMibView-clause-ok g c = rw c.in-EndOfMibView.is c.encode-in-EndOfMibView.ensures.ok

pub returns-in-EndOfMibView-clause-succeeds : goal.returns-in-EndOfMibView-clause-succeeds
returns-in-EndOfMibView-clause-succeeds g c = rw c.in-EndOfMibView.is c.encode-in-EndOfMibView.ensures.succeeds
