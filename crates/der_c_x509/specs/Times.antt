-- Times of certificates and revocation lists, as the seconds since 1970-01-01T00:00:00Z
-- (`time_seconds`; RFC 5280, 4.1.2.5).
use Rattle.std.specs.Prelude.{◌≡◌, ℤ, pos, Option, MatchOption}
use Rattle.der_asn1.specs.UnixTime.{unix_seconds}
use Rattle.x509.specs.declared.asn1.time.Time.{Time}
use Rattle.x509.specs.declared.asn1.time.Time.TheVariants.{UtcTime, GeneralTime}

abbrev pub time_seconds : Time → ℤ
time_seconds (UtcTime v) = unix_seconds v.time
time_seconds (GeneralTime v) = unix_seconds v.time

-- a time that may be absent; 0 if it is
abbrev pub IsOptionalTimeOf : Option Time → ℤ → Type 0
IsOptionalTimeOf o seconds = MatchOption o (seconds ≡ pos 0) (λ t. seconds ≡ time_seconds t)
