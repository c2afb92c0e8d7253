-- Written by asn1_compile: change the module instead.
use Rattle.snmp.proofs.asn1.simple_syntax.SimpleSyntaxEncode.encode_before.Goals as goal

pub returns-in-IntegerValue : goal.returns-in-IntegerValue
returns-in-IntegerValue c = rw c.in-IntegerValue.is c.encode_before.ensures

pub returns-in-StringValue : goal.returns-in-StringValue
returns-in-StringValue c = rw c.in-StringValue.is c.encode_before-in-StringValue.ensures

pub returns-in-ObjectIdValue : goal.returns-in-ObjectIdValue
returns-in-ObjectIdValue c = rw c.in-ObjectIdValue.is c.encode_before-in-ObjectIdValue.ensures
