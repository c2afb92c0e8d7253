-- Written by asn1_compile: change the module instead.
use Rattle.snmp.proofs.asn1.object_syntax.ObjectSyntaxEncode.len_before.Goals as goal

pub returns-in-Simple : goal.returns-in-Simple
returns-in-Simple c = rw c.in-Simple.is c.len_before.ensures

pub returns-in-ApplicationWide : goal.returns-in-ApplicationWide
returns-in-ApplicationWide c = rw c.in-ApplicationWide.is c.len_before-in-ApplicationWide.ensures
