-- Written by asn1_compile: change the module instead.
use Rattle.ldap.proofs.asn1.substring_filter_substrings_item.SubstringFilterSubstringsItemEncode.encode.Goals as goal

pub returns-in-Initial-clause-ok : goal.returns-in-Initial-clause-ok
returns-in-Initial-clause-ok g c = rw c.in-Initial.is c.encode.ensures.ok

pub returns-in-Initial-clause-succeeds : goal.returns-in-Initial-clause-succeeds
returns-in-Initial-clause-succeeds g c = rw c.in-Initial.is c.encode.ensures.succeeds

pub returns-in-Any-clause-ok : goal.returns-in-Any-clause-ok
returns-in-Any-clause-ok g c = rw c.in-Any.is c.encode-in-Any.ensures.ok

pub returns-in-Any-clause-succeeds : goal.returns-in-Any-clause-succeeds
returns-in-Any-clause-succeeds g c = rw c.in-Any.is c.encode-in-Any.ensures.succeeds

pub returns-in-Final-clause-ok : goal.returns-in-Final-clause-ok
returns-in-Final-clause-ok g c = rw c.in-Final.is c.encode-in-Final.ensures.ok

pub returns-in-Final-clause-succeeds : goal.returns-in-Final-clause-succeeds
returns-in-Final-clause-succeeds g c = rw c.in-Final.is c.encode-in-Final.ensures.succeeds
