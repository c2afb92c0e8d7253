-- Checks of a response that decoding does not make (RFC 6960, 4.2.1).
use Rattle.std.specs.Prelude.{◌≡◌, ◌↔◌, IsSome}
use Rattle.ocsp.specs.declared.asn1.ocsp_response.OcspResponse.{OcspResponse}
use Rattle.ocsp.specs.declared.asn1.ocsp_response_status.OcspResponseStatus.TheVariants as status

-- the response itself is present if and only if the request was successful
abbrev pub MatchesResponseStatus : OcspResponse → Type 0
MatchesResponseStatus v = IsSome v.response_bytes.0 ↔ (v.response_status.number.0 ≡ status.Successful)
