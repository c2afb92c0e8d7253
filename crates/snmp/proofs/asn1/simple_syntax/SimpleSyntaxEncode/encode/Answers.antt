-- Written by asn1_compile: change the module instead.
use Rattle.snmp.proofs.asn1.simple_syntax.SimpleSyntaxEncode.encode.Goals as goal

pub returns-in-IntegerValue-clause-ok : goal.returns-in-IntegerValue-clause-ok
returns-in-IntegerValue-clause-ok g c = rw c.in-IntegerValue.is c.encode.ensures.ok

pub returns-in-IntegerValue-clause-succeeds : goal.returns-in-IntegerValue-clause-succeeds
returns-in-IntegerValue-clause-succeeds g c = rw c.in-IntegerValue.is c.encode.ensures.succeeds

pub returns-in-StringValue-clause-ok : goal.returns-in-StringValue-clause-ok
returns-in-StringValue-clause-ok g c = rw c.in-StringValue.is c.encode-in-StringValue.ensures.ok

pub returns-in-StringValue-clause-succeeds : goal.returns-in-StringValue-clause-succeeds
returns-in-StringValue-clause-succeeds g c = rw c.in-StringValue.is c.encode-in-StringValue.ensures.succeeds

pub returns-in-ObjectIdValue-clause-ok : goal.returns-in-ObjectIdValue-clause-ok
returns-in-ObjectIdValue-clause-ok g c = rw c.in-ObjectIdValue.is c.encode-in-ObjectIdValue.ensures.ok

pub returns-in-ObjectIdValue-clause-succeeds : goal.returns-in-ObjectIdValue-clause-succeeds
returns-in-ObjectIdValue-clause-succeeds g c = rw c.in-ObjectIdValue.is c.encode-in-ObjectIdValue.ensures.succeeds
