-- Written by asn1_compile: change the module instead.
use Rattle.snmp.proofs.asn1.var_bind_data.VarBindDataEncode.len_before.Goals as goal

pub returns-in-Value : goal.returns-in-Value
returns-in-Value c = rw c.in-Value.is c.len_before.ensures

pub returns-in-UnSpecified : goal.returns-in-UnSpecified
returns-in-UnSpecified c = rw c.in-UnSpecified.is c.len_before-in-UnSpecified.ensures

pub returns-in-NoSuchObject : goal.returns-in-NoSuchObject
returns-in-NoSuchObject c = rw c.in-NoSuchObject.is c.len_before-in-NoSuchObject.ensures

pub returns-in-NoSuchInstance : goal.returns-in-NoSuchInstance
returns-in-NoSuchInstance c = rw c.in-NoSuchInstance.is c.len_before-in-NoSuchInstance.ensures

pub returns-in-EndOfMibView : goal.returns-in-EndOfMibView
returns-in-EndOfMibView c = rw c.in-EndOfMibView.is c.len_before-in-EndOfMibView.ensures
