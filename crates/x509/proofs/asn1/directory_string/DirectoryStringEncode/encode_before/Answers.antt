-- Written by asn1_compile: change the module instead.
use Rattle.x509.proofs.asn1.directory_string.DirectoryStringEncode.encode_before.Goals as goal

pub returns-in-TeletexString : goal.returns-in-TeletexString
returns-in-TeletexString c = rw c.in-TeletexString.is c.encode_before.ensures

pub returns-in-PrintableString : goal.returns-in-PrintableString
returns-in-PrintableString c = rw c.in-PrintableString.is c.encode_before-in-PrintableString.ensures

pub returns-in-Utf8String : goal.returns-in-Utf8String
returns-in-Utf8String c = rw c.in-Utf8String.is c.encode_before-in-Utf8String.ensures

pub returns-in-BmpString : goal.returns-in-BmpString
returns-in-BmpString c = rw c.in-BmpString.is c.encode_before-in-BmpString.ensures
