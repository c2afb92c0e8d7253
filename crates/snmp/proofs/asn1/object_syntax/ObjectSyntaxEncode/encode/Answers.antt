-- Written by asn1_compile: change the module instead.
use Rattle.snmp.proofs.asn1.object_syntax.ObjectSyntaxEncode.encode.Goals as goal

pub returns-in-Simple-clause-ok : goal.returns-in-Simple-clause-ok
returns-in-Simple-clause-ok g c = rw c.in-Simple.is c.encode.ensures.ok

pub returns-in-Simple-clause-succeeds : goal.returns-in-Simple-clause-succeeds
returns-in-Simple-clause-succeeds g c = rw c.in-Simple.is c.encode.ensures.succeeds

pub returns-in-ApplicationWide-clause-ok : goal.returns-in-ApplicationWide-clause-ok
returns-in-ApplicationWide-clause-ok g c = rw c.in-ApplicationWide.is c.encode-in-ApplicationWide.ensures.ok

pub returns-in-ApplicationWide-clause-succeeds : goal.returns-in-ApplicationWide-clause-succeeds
returns-in-ApplicationWide-clause-succeeds g c = rw c.in-ApplicationWide.is c.encode-in-ApplicationWide.ensures.succeeds
