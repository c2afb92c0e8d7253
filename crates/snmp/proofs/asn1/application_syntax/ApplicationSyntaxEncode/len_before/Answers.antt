-- Written by asn1_compile: change the module instead.
use Rattle.snmp.proofs.asn1.application_syntax.ApplicationSyntaxEncode.len_before.Goals as goal

pub returns-in-IpAddressValue : goal.returns-in-IpAddressValue
returns-in-IpAddressValue c = rw c.in-IpAddressValue.is c.len_before.ensures

pub returns-in-CounterValue : goal.returns-in-CounterValue
returns-in-CounterValue c = rw c.in-CounterValue.is c.len_before-in-CounterValue.ensures

pub returns-in-TimeticksValue : goal.returns-in-TimeticksValue
returns-in-TimeticksValue c = rw c.in-TimeticksValue.is c.len_before-in-TimeticksValue.ensures

pub returns-in-ArbitraryValue : goal.returns-in-ArbitraryValue
returns-in-ArbitraryValue c = rw c.in-ArbitraryValue.is c.len_before-in-ArbitraryValue.ensures

pub returns-in-BigCounterValue : goal.returns-in-BigCounterValue
returns-in-BigCounterValue c = rw c.in-BigCounterValue.is c.len_before-in-BigCounterValue.ensures

pub returns-in-UnsignedIntegerValue : goal.returns-in-UnsignedIntegerValue
returns-in-UnsignedIntegerValue c = rw c.in-UnsignedIntegerValue.is c.len_before-in-UnsignedIntegerValue.ensures
