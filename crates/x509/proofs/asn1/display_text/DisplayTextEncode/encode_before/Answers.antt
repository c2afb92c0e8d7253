-- Written by asn1_compile: change the module instead.
use Rattle.x509.proofs.asn1.display_text.DisplayTextEncode.encode_before.Goals as goal

pub returns-in-Ia5String : goal.returns-in-Ia5String
returns-in-Ia5String c = rw c.in-Ia5String.is c.encode_before.ensures

pub returns-in-VisibleString : goal.returns-in-VisibleString
returns-in-VisibleString c = rw c.in-VisibleString.is c.encode_before-in-VisibleString.ensures

pub returns-in-BmpString : goal.returns-in-BmpString
returns-in-BmpString c = rw c.in-BmpString.is c.encode_before-in-BmpString.ensures

pub returns-in-Utf8String : goal.returns-in-Utf8String
returns-in-Utf8String c = rw c.in-Utf8String.is c.encode_before-in-Utf8String.ensures
