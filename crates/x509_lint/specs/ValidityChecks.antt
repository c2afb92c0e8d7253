-- The times of a certificate (RFC 5280, 4.1.2.5): `HasFormOfYear` and `IsOrdered`.
use Rattle.std.specs.Prelude.{◌≢◌, ◌<◌, ◌≤◌}
use Rattle.std.specs.declared.cmp.Ordering.TheVariants.{Greater}
use Rattle.der_asn1.specs.Times.{time_order}
use Rattle.x509.specs.CertificateTimes.{date_time_of}
use Rattle.x509.specs.declared.asn1.time.Time.{Time}
use Rattle.x509.specs.declared.asn1.time.Time.TheVariants.{UtcTime, GeneralTime}
use Rattle.x509.specs.declared.asn1.validity.Validity.{Validity}

-- a UTCTime through the year 2049, and a GeneralizedTime from 2050 on (4.1.2.5)
abbrev pub HasFormOfYear : Time → Type 0
HasFormOfYear (UtcTime v) = v.time.year < 2050
HasFormOfYear (GeneralTime v) = 2050 ≤ v.time.year

-- both times have the form that their years require
abbrev pub HasFormsOfYears : Validity → Type 0
HasFormsOfYears v = HasFormOfYear v.not_before × HasFormOfYear v.not_after

-- the period does not end before it begins
abbrev pub IsOrdered : Validity → Type 0
IsOrdered v = time_order (date_time_of v.not_before) (date_time_of v.not_after) ≢ Greater
