-- A UTF8String that owns its octets, `owned_text_octets` (X.690 8.23).
use Rattle.std.specs.Prelude.{ℕ, List}
use Rattle.std.proofs.Common.{arith}
use Rattle.der_base.specs.declared.tag.Tag.TheVariants.{Utf8String}
use Rattle.der_core.specs.Lawful.{IsLawful}
use Rattle.der.specs.StringOwned.{owned_text}
use Rattle.der.specs.Octets.{IsText, TakesOctets, octets_lawful}
use Rattle.der.specs.declared.example.owned_text.OwnedText.{OwnedText}

abbrev pub owned_text_octets : OwnedText → List ℕ
owned_text_octets t = owned_text t.text

-- this type is lawful: decoding inverts encoding
pub owned_text_lawful : IsLawful Utf8String (TakesOctets IsText owned_text_octets)
    (λ t. IsText (owned_text_octets t)) owned_text_octets (λ _. 0)
owned_text_lawful = octets_lawful Utf8String IsText owned_text_octets (omega arith)
