-- The characters of a DirectoryString (RFC 5280, 4.1.2.4), as text in UTF-8.
use Rattle.std.specs.Prelude.{ℕ, List}
use Rattle.x509.specs.Text.{bmp_text, latin1_text}
use Rattle.x509.specs.declared.asn1.directory_string.DirectoryString.{DirectoryString}
use Rattle.x509.specs.declared.asn1.directory_string.DirectoryString.TheVariants.{TeletexString, PrintableString, Utf8String, BmpString}

-- the characters: those of a TeletexString are read as ISO 8859-1
abbrev pub directory_text : DirectoryString → List ℕ
directory_text (TeletexString v) = latin1_text v.octets.now
directory_text (PrintableString v) = latin1_text v.octets.now
directory_text (Utf8String v) = v.octets.now
directory_text (BmpString v) = bmp_text v.octets.now
