-- Written by asn1_compile: change the module instead.
use Rattle.x509.proofs.asn1.display_text.DisplayTextEncode.encode.Goals as goal

pub returns-in-Ia5String-clause-ok : goal.returns-in-Ia5String-clause-ok
returns-in-Ia5String-clause-ok g c = rw c.in-Ia5String.is c.encode.ensures.ok

pub returns-in-Ia5String-clause-succeeds : goal.returns-in-Ia5String-clause-succeeds
returns-in-Ia5String-clause-succeeds g c = rw c.in-Ia5String.is c.encode.ensures.succeeds

pub returns-in-VisibleString-clause-ok : goal.returns-in-VisibleString-clause-ok
returns-in-VisibleString-clause-ok g c = rw c.in-VisibleString.is c.encode-in-VisibleString.ensures.ok

pub returns-in-VisibleString-clause-succeeds : goal.returns-in-VisibleString-clause-succeeds
returns-in-VisibleString-clause-succeeds g c = rw c.in-VisibleString.is c.encode-in-VisibleString.ensures.succeeds

pub returns-in-BmpString-clause-ok : goal.returns-in-BmpString-clause-ok
returns-in-BmpString-clause-ok g c = rw c.in-BmpString.is c.encode-in-BmpString.ensures.ok

pub returns-in-BmpString-clause-succeeds : goal.returns-in-BmpString-clause-succeeds
returns-in-BmpString-clause-succeeds g c = rw c.in-BmpString.is c.encode-in-BmpString.ensures.succeeds

pub returns-in-Utf8String-clause-ok : goal.returns-in-Utf8String-clause-ok
returns-in-Utf8String-clause-ok g c = rw c.in-Utf8String.is c.encode-in-Utf8String.ensures.ok

pub returns-in-Utf8String-clause-succeeds : goal.returns-in-Utf8String-clause-succeeds
returns-in-Utf8String-clause-succeeds g c = rw c.in-Utf8String.is c.encode-in-Utf8String.ensures.succeeds
