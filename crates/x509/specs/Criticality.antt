-- Whether extensions are critical (RFC 5280, 4.2): `IsCritical`.
use Rattle.std.specs.Prelude.{◌≡◌, false}
use Rattle.der_asn1.specs.Forms.{is_false}
use Rattle.x509.specs.declared.asn1.extension.Extension.{Extension}

-- an extension is critical: the BOOLEAN is not false (4.1)
abbrev pub IsCritical : Extension → Type 0
IsCritical v = is_false v.critical.0.octets.now ≡ false
