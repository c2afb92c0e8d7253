-- Extensions that are found by their type, as structs of C: keyUsage (`IsKeyUsageOf`),
-- subjectAltName (`IsNamesOf`), and those whose value is a list or octets (`IsFoundOf`).
use Rattle.std.specs.Prelude.{◌≡◌, ℕ, zero, suc, ◌+◌, ◌^◌, true, false, List, [], Option, Some, None, if◌then◌else◌}
use Rattle.der_asn1.specs.NamedBits.{has_bit}
use Rattle.x509.specs.declared.find.known.Known.{Known}
use Rattle.der_c_x509.specs.declared.found.DerFound.{DerFound}
use Rattle.der_c_x509.specs.declared.key_usage.DerKeyUsage.{DerKeyUsage}
use Rattle.der_c_x509.specs.declared.subject_names.DerGeneralNames.{DerGeneralNames}

-- the first `count` bits of a BIT STRING with named bits, as a number: bit n counts 2^n
abbrev pub first_bits : ℕ → List ℕ → ℕ
first_bits zero octets = 0
first_bits (suc n) octets = first_bits n octets + (if has_bit n octets then 2 ^ n else 0)

-- the bits 0 to 15 (RFC 5280, 4.2.1.3); if the extension is absent, nothing
abbrev pub IsKeyUsageOf : {A : Type 0} → (A → List ℕ) → Option (Known A) → DerKeyUsage → Type 0
IsKeyUsageOf octets_of None u = (u.present ≡ false) × (u.critical ≡ false) × (u.bits ≡ 0)
IsKeyUsageOf octets_of (Some k) u =
    (u.present ≡ true) × (u.critical ≡ k.critical) × (u.bits ≡ first_bits 16 (octets_of k.value))

-- the contents of the list of names (4.2.1.6); if the extension is absent, nothing
abbrev pub IsNamesOf : {A : Type 0} → (A → List ℕ) → Option (Known A) → DerGeneralNames → Type 0
IsNamesOf octets_of None n = (n.present ≡ false) × (n.critical ≡ false) × (n.names.octets.now ≡ [])
IsNamesOf octets_of (Some k) n =
    (n.present ≡ true) × (n.critical ≡ k.critical) × (n.names.octets.now ≡ octets_of k.value)

-- the contents octets of the value; if the extension is absent, nothing
abbrev pub IsFoundOf : {A : Type 0} → (A → List ℕ) → Option (Known A) → DerFound → Type 0
IsFoundOf octets_of None f =
    (f.present ≡ false) × (f.critical ≡ false) × (f.contents.octets.now ≡ [])
IsFoundOf octets_of (Some k) f =
    (f.present ≡ true) × (f.critical ≡ k.critical) × (f.contents.octets.now ≡ octets_of k.value)
