-- Written by asn1_compile: change the module instead.
use Rattle.x509.proofs.asn1.directory_string.DirectoryStringEncode.encode.Goals as goal

pub returns-in-TeletexString-clause-ok : goal.returns-in-TeletexString-clause-ok
returns-in-TeletexString-clause-ok g c = rw c.in-TeletexString.is c.encode.ensures.ok

pub returns-in-TeletexString-clause-succeeds : goal.returns-in-TeletexString-clause-succeeds
returns-in-TeletexString-clause-succeeds g c = rw c.in-TeletexString.is c.encode.ensures.succeeds

pub returns-in-PrintableString-clause-ok : goal.returns-in-PrintableString-clause-ok
returns-in-PrintableString-clause-ok g c = rw c.in-PrintableString.is c.encode-in-PrintableString.ensures.ok

pub returns-in-PrintableString-clause-succeeds : goal.returns-in-PrintableString-clause-succeeds
returns-in-PrintableString-clause-succeeds g c = rw c.in-PrintableString.is c.encode-in-PrintableString.ensures.succeeds

pub returns-in-Utf8String-clause-ok : goal.returns-in-Utf8String-clause-ok
returns-in-Utf8String-clause-ok g c = rw c.in-Utf8String.is c.encode-in-Utf8String.ensures.ok

pub returns-in-Utf8String-clause-succeeds : goal.returns-in-Utf8String-clause-succeeds
returns-in-Utf8String-clause-succeeds g c = rw c.in-Utf8String.is c.encode-in-Utf8String.ensures.succeeds

pub returns-in-BmpString-clause-ok : goal.returns-in-BmpString-clause-ok
returns-in-BmpString-clause-ok g c = rw c.in-BmpString.is c.encode-in-BmpString.ensures.ok

pub returns-in-BmpString-clause-succeeds : goal.returns-in-BmpString-clause-succeeds
returns-in-BmpString-clause-succeeds g c = rw c.in-BmpString.is c.encode-in-BmpString.ensures.succeeds
