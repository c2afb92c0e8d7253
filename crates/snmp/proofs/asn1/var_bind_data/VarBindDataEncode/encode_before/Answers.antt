-- Written by asn1_compile: change the module instead.
use Rattle.snmp.proofs.asn1.var_bind_data.VarBindDataEncode.encode_before.Goals as goal

pub returns-in-Value : goal.returns-in-Value
returns-in-Value c = rw c.in-Value.is c.encode_before.ensures

pub returns-in-UnSpecified : goal.returns-in-UnSpecified
returns-in-UnSpecified c = rw c.in-UnSpecified.is c.encode_before-in-UnSpecified.ensures

pub returns-in-NoSuchObject : goal.returns-in-NoSuchObject
returns-in-NoSuchObject c = rw c.in-NoSuchObject.is c.encode_before-in-NoSuchObject.ensures

pub returns-in-NoSuchInstance : goal.returns-in-NoSuchInstance
returns-in-NoSuchInstance c = rw c.in-NoSuchInstance.is c.encode_before-in-NoSuchInstance.ensures

pub returns-in-EndOfMibView : goal.returns-in-EndOfMibView
returns-in-EndOfMibView c = rw c.in-EndOfMibView.is c.encode_before-in-EndOfMibView.ensures
