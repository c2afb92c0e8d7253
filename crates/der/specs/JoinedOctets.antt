-- An OCTET STRING whose segments are joined to `joined_octets` (X.690 8.7): which contents are
-- accepted (`TakesJoined`), and the possible results of reading it (`JoinedRead`).
use Rattle.std.specs.Prelude.{◌≡◌, ℕ, true, false, List, Result}
use Rattle.std.proofs.Common.{arith, refl, sym, ◌∙◌}
use Rattle.der_base.specs.HeaderGrammar.{Head}
use Rattle.der_base.specs.declared.error.Error.{Error}
use Rattle.der_base.specs.declared.tag.Tag.TheVariants.{OctetString}
use Rattle.der_base.specs.declared.encoding_rules.EncodingRules.{EncodingRules}
use Rattle.der_base.specs.declared.encoding_rules.EncodingRules.TheVariants.{Ber, Der}
use Rattle.der_core.specs.Lawful.{IsLawful}
use Rattle.der_core.specs.ReaderState.{ReaderState}
use Rattle.der.specs.BytesOwned.{owned_octets}
use Rattle.der.specs.Octets.{IsCounted}
use Rattle.der.specs.Parts.{TakesParts, as_contents, as_segments, levels_inside, PartsRead}
use Rattle.der.specs.declared.example.joined_octets.JoinedOctets.{JoinedOctets}

abbrev pub joined_octets : JoinedOctets → List ℕ
joined_octets v = owned_octets v.octets

abbrev pub TakesJoined : JoinedOctets → EncodingRules → Head → List ℕ → Type 0
TakesJoined v rules h octets =
    IsCounted (joined_octets v) × TakesParts OctetString (joined_octets v) rules h octets

abbrev pub JoinedRead : Head → ReaderState → Result JoinedOctets Error → ReaderState → Type 0
JoinedRead h s result t = PartsRead OctetString joined_octets h s result t

-- the levels of nesting that the contents need: none under DER, which has no segments
abbrev pub joined_levels : EncodingRules → ℕ
joined_levels Ber = levels_inside
joined_levels Der = 0

-- the contents of a primitive header are not segments
primitive_contents : {out octets : List ℕ} {rules : EncodingRules} {h : Head}
    → h.constructed ≡ false → TakesParts OctetString out rules h octets → out ≡ octets
primitive_contents bit (as_contents flag same) = same
primitive_contents bit (as_segments segments joined) =
    absurd (let no : false ≡ true = sym bit ∙ segments.bit in cc)

-- this type is lawful: under DER its header is primitive, so decoding inverts encoding
pub joined_lawful : IsLawful OctetString TakesJoined (λ v. IsCounted (joined_octets v))
    joined_octets joined_levels
joined_lawful =
    record {
      exact = λ octets v short.
          (λ h. (h.0, primitive_contents refl h.1), λ h. (h.0, as_contents refl h.1));
      shallow = omega arith;
      numbered = omega arith;
    }
