-- Written by asn1_compile: change the module instead.
use Rattle.ldap.proofs.asn1.filter.FilterEncode.encode.Goals as goal

pub returns-in-And-clause-ok : goal.returns-in-And-clause-ok
returns-in-And-clause-ok g c = rw c.in-And.is c.encode.ensures.ok

pub returns-in-And-clause-succeeds : goal.returns-in-And-clause-succeeds
returns-in-And-clause-succeeds g c = rw c.in-And.is c.encode.ensures.succeeds

pub returns-in-Or-clause-ok : goal.returns-in-Or-clause-ok
returns-in-Or-clause-ok g c = rw c.in-Or.is c.encode-in-Or.ensures.ok

pub returns-in-Or-clause-succeeds : goal.returns-in-Or-clause-succeeds
returns-in-Or-clause-succeeds g c = rw c.in-Or.is c.encode-in-Or.ensures.succeeds

pub returns-in-Not-clause-ok : goal.returns-in-Not-clause-ok
returns-in-Not-clause-ok g c = rw c.in-Not.is c.encode-in-Not.ensures.ok

pub returns-in-Not-clause-succeeds : goal.returns-in-Not-clause-succeeds
returns-in-Not-clause-succeeds g c = rw c.in-Not.is c.encode-in-Not.ensures.succeeds

pub returns-in-EqualityMatch-clause-ok : goal.returns-in-EqualityMatch-clause-ok
returns-in-EqualityMatch-clause-ok g c = rw c.in-EqualityMatch.is c.encode-in-EqualityMatch.ensures.ok

pub returns-in-EqualityMatch-clause-succeeds : goal.returns-in-EqualityMatch-clause-succeeds
returns-in-EqualityMatch-clause-succeeds g c = rw c.in-EqualityMatch.is c.encode-in-EqualityMatch.ensures.succeeds

pub returns-in-Substrings-clause-ok : goal.returns-in-Substrings-clause-ok
returns-in-Substrings-clause-ok g c = rw c.in-Substrings.is c.encode-in-Substrings.ensures.ok

pub returns-in-Substrings-clause-succeeds : goal.returns-in-Substrings-clause-succeeds
returns-in-Substrings-clause-succeeds g c = rw c.in-Substrings.is c.encode-in-Substrings.ensures.succeeds

pub returns-in-GreaterOrEqual-clause-ok : goal.returns-in-GreaterOrEqual-clause-ok
returns-in-GreaterOrEqual-clause-ok g c = rw c.in-GreaterOrEqual.is c.encode-in-GreaterOrEqual.ensures.ok

pub returns-in-GreaterOrEqual-clause-succeeds : goal.returns-in-GreaterOrEqual-clause-succeeds
returns-in-GreaterOrEqual-clause-succeeds g c = rw c.in-GreaterOrEqual.is c.encode-in-GreaterOrEqual.ensures.succeeds

pub returns-in-LessOrEqual-clause-ok : goal.returns-in-LessOrEqual-clause-ok
returns-in-LessOrEqual-clause-ok g c = rw c.in-LessOrEqual.is c.encode-in-LessOrEqual.ensures.ok

pub returns-in-LessOrEqual-clause-succeeds : goal.returns-in-LessOrEqual-clause-succeeds
returns-in-LessOrEqual-clause-succeeds g c = rw c.in-LessOrEqual.is c.encode-in-LessOrEqual.ensures.succeeds

pub returns-in-Present-clause-ok : goal.returns-in-Present-clause-ok
returns-in-Present-clause-ok g c = rw c.in-Present.is c.encode-in-Present.ensures.ok

pub returns-in-Present-clause-succeeds : goal.returns-in-Present-clause-succeeds
returns-in-Present-clause-succeeds g c = rw c.in-Present.is c.encode-in-Present.ensures.succeeds

pub returns-in-ApproxMatch-clause-ok : goal.returns-in-ApproxMatch-clause-ok
returns-in-ApproxMatch-clause-ok g c = rw c.in-ApproxMatch.is c.encode-in-ApproxMatch.ensures.ok

pub returns-in-ApproxMatch-clause-succeeds : goal.returns-in-ApproxMatch-clause-succeeds
returns-in-ApproxMatch-clause-succeeds g c = rw c.in-ApproxMatch.is c.encode-in-ApproxMatch.ensures.succeeds

pub returns-in-ExtensibleMatch-clause-ok : goal.returns-in-ExtensibleMatch-clause-ok
returns-in-ExtensibleMatch-clause-ok g c = rw c.in-ExtensibleMatch.is c.encode-in-ExtensibleMatch.ensures.ok

pub returns-in-ExtensibleMatch-clause-succeeds : goal.returns-in-ExtensibleMatch-clause-succeeds
returns-in-ExtensibleMatch-clause-succeeds g c = rw c.in-ExtensibleMatch.is c.encode-in-ExtensibleMatch.ensures.succeeds

pub returns-in-Unknown-clause-ok : goal.returns-in-Unknown-clause-ok
returns-in-Unknown-clause-ok g c = rw c.in-Unknown.is c.encode-in-Unknown.ensures.ok

pub returns-in-Unknown-clause-succeeds : goal.returns-in-Unknown-clause-succeeds
returns-in-Unknown-clause-succeeds g c = rw c.in-Unknown.is c.encode-in-Unknown.ensures.succeeds
