-- The validity period of a certificate (RFC 5280, 4.1.2.5, 6.1.3 (a) (2)): `IsCurrent`.
use Rattle.std.specs.Prelude.{◌≢◌}
use Rattle.std.specs.declared.cmp.Ordering.TheVariants.{Greater}
use Rattle.der_asn1.specs.Times.{time_order}
use Rattle.der_asn1.specs.declared.times.date_time.DateTime.{DateTime}
use Rattle.x509.specs.CertificateTimes.{date_time_of}
use Rattle.x509.specs.declared.asn1.validity.Validity.{Validity}

-- notBefore is not after the time, and the time is not after notAfter: "the period of time from
-- notBefore through notAfter, inclusive" (4.1.2.5)
abbrev pub IsCurrent : Validity → DateTime → Type 0
IsCurrent v time =
    (time_order (date_time_of v.not_before) time ≢ Greater)
    × (time_order time (date_time_of v.not_after) ≢ Greater)
