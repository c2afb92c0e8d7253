-- Written by asn1_compile: change the module instead.
use Rattle.ldap.proofs.asn1.filter.FilterEncode.encode_before.Goals as goal

pub returns-in-And : goal.returns-in-And
returns-in-And c = rw c.in-And.is c.encode_before.ensures

pub returns-in-Or : goal.returns-in-Or
returns-in-Or c = rw c.in-Or.is c.encode_before-in-Or.ensures

pub returns-in-Not : goal.returns-in-Not
returns-in-Not c = rw c.in-Not.is c.encode_before-in-Not.ensures

pub returns-in-EqualityMatch : goal.returns-in-EqualityMatch
returns-in-EqualityMatch c = rw c.in-EqualityMatch.is c.encode_before-in-EqualityMatch.ensures

pub returns-in-Substrings : goal.returns-in-Substrings
returns-in-Substrings c = rw c.in-Substrings.is c.encode_before-in-Substrings.ensures

pub returns-in-GreaterOrEqual : goal.returns-in-GreaterOrEqual
returns-in-GreaterOrEqual c = rw c.in-GreaterOrEqual.is c.encode_before-in-GreaterOrEqual.ensures

pub returns-in-LessOrEqual : goal.returns-in-LessOrEqual
returns-in-LessOrEqual c = rw c.in-LessOrEqual.is c.encode_before-in-LessOrEqual.ensures

pub returns-in-Present : goal.returns-in-Present
returns-in-Present c = rw c.in-Present.is c.encode_before-in-Present.ensures

pub returns-in-ApproxMatch : goal.returns-in-ApproxMatch
returns-in-ApproxMatch c = rw c.in-ApproxMatch.is c.encode_before-in-ApproxMatch.ensures

pub returns-in-ExtensibleMatch : goal.returns-in-ExtensibleMatch
returns-in-ExtensibleMatch c = rw c.in-ExtensibleMatch.is c.encode_before-in-ExtensibleMatch.ensures

pub returns-in-Unknown : goal.returns-in-Unknown
returns-in-Unknown c = rw c.in-Unknown.is c.encode_before-in-Unknown.ensures
