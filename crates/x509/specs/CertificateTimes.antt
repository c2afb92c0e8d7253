-- The times of certificates and revocation lists (RFC 5280, 4.1.2.5): `date_time_of`.
use Rattle.der_asn1.specs.declared.times.date_time.DateTime.{DateTime}
use Rattle.x509.specs.declared.asn1.time.Time.{Time}
use Rattle.x509.specs.declared.asn1.time.Time.TheVariants.{UtcTime, GeneralTime}

-- the date and the time of day
abbrev pub date_time_of : Time → DateTime
date_time_of (UtcTime v) = v.time
date_time_of (GeneralTime v) = v.time
