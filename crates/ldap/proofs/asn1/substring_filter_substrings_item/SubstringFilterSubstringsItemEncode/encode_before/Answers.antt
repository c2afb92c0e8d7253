-- Written by asn1_compile: change the module instead.
use Rattle.ldap.proofs.asn1.substring_filter_substrings_item.SubstringFilterSubstringsItemEncode.encode_before.Goals as goal

pub returns-in-Initial : goal.returns-in-Initial
returns-in-Initial c = rw c.in-Initial.is c.encode_before.ensures

pub returns-in-Any : goal.returns-in-Any
returns-in-Any c = rw c.in-Any.is c.encode_before-in-Any.ensures

pub returns-in-Final : goal.returns-in-Final
returns-in-Final c = rw c.in-Final.is c.encode_before-in-Final.ensures
