-- Written by asn1_compile: change the module instead.
use Rattle.snmp.proofs.asn1.application_syntax.ApplicationSyntaxEncode.encode.Goals as goal

pub returns-in-IpAddressValue-clause-ok : goal.returns-in-IpAddressValue-clause-ok
returns-in-IpAddressValue-clause-ok g c = rw c.in-IpAddressValue.is c.encode.ensures.ok

pub returns-in-IpAddressValue-clause-succeeds : goal.returns-in-IpAddressValue-clause-succeeds
returns-in-IpAddressValue-clause-succeeds g c = rw c.in-IpAddressValue.is c.encode.ensures.succeeds

pub returns-in-CounterValue-clause-ok : goal.returns-in-CounterValue-clause-ok
returns-in-CounterValue-clause-ok g c = rw c.in-CounterValue.is c.encode-in-CounterValue.ensures.ok

pub returns-in-CounterValue-clause-succeeds : goal.returns-in-CounterValue-clause-succeeds
returns-in-CounterValue-clause-succeeds g c = rw c.in-CounterValue.is c.encode-in-CounterValue.ensures.succeeds

pub returns-in-TimeticksValue-clause-ok : goal.returns-in-TimeticksValue-clause-ok
returns-in-TimeticksValue-clause-ok g c = rw c.in-TimeticksValue.is c.encode-in-TimeticksValue.ensures.ok

pub returns-in-TimeticksValue-clause-succeeds : goal.returns-in-TimeticksValue-clause-succeeds
returns-in-TimeticksValue-clause-succeeds g c = rw c.in-TimeticksValue.is c.encode-in-TimeticksValue.ensures.succeeds

pub returns-in-ArbitraryValue-clause-ok : goal.returns-in-ArbitraryValue-clause-ok
returns-in-ArbitraryValue-clause-ok g c = rw c.in-ArbitraryValue.is c.encode-in-ArbitraryValue.ensures.ok

pub returns-in-ArbitraryValue-clause-succeeds : goal.returns-in-ArbitraryValue-clause-succeeds
returns-in-ArbitraryValue-clause-succeeds g c = rw c.in-ArbitraryValue.is c.encode-in-ArbitraryValue.ensures.succeeds

pub returns-in-BigCounterValue-clause-ok : goal.returns-in-BigCounterValue-clause-ok
returns-in-BigCounterValue-clause-ok g c = rw c.in-BigCounterValue.is c.encode-in-BigCounterValue.ensures.ok

pub returns-in-BigCounterValue-clause-succeeds : goal.returns-in-BigCounterValue-clause-succeeds
returns-in-BigCounterValue-clause-succeeds g c = rw c.in-BigCounterValue.is c.encode-in-BigCounterValue.ensures.succeeds

pub returns-in-UnsignedIntegerValue-clause-ok : goal.returns-in-UnsignedIntegerValue-clause-ok
returns-in-UnsignedIntegerValue-clause-ok g c = rw c.in-UnsignedIntegerValue.is c.encode-in-UnsignedIntegerValue.ensures.ok

pub returns-in-UnsignedIntegerValue-clause-succeeds : goal.returns-in-UnsignedIntegerValue-clause-succeeds
returns-in-UnsignedIntegerValue-clause-succeeds g c = rw c.in-UnsignedIntegerValue.is c.encode-in-UnsignedIntegerValue.ensures.succeeds
