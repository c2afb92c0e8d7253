-- Outcomes of one turn of a scan: what it reads (`PartRead`), and its errors (`RefusesPart`).
use Rattle.std.specs.Prelude.{◌≡◌, ℕ, ◌<◌, true, false, List, [], ◌∷◌, ◌++◌}
use Rattle.der_base.specs.FixedOctets.{indefinite_octet, end_of_contents}
use Rattle.der_base.specs.Tag.{IsIdentifier}
use Rattle.der_base.specs.Body.{Item}
use Rattle.der_base.specs.ScanGrammar.{ScanFault}
use Rattle.der_base.specs.declared.tag.Tag.{Tag}
use Rattle.der_base.specs.declared.error.Error.{Error}
use Rattle.der_base.specs.declared.encoding_rules.EncodingRules.TheVariants.{Ber}
use Rattle.der_core.specs.ReaderState.{ReaderState, Reads}
use Rattle.der_core.specs.Decode.{IsRefusedBy}
use Rattle.der_core.specs.declared.length.indefinite.Part.{Part}
use Rattle.der_core.specs.declared.length.indefinite.Part.TheVariants.{Ends, Passes, Opens}

-- the octets read by one turn, with `level` bodies open: the end-of-contents octets, an item with a
-- definite length, or an identifier and octet `0x80`, if one more level may be open
abbrev pub PartOctets : ℕ → Part → List ℕ → Type 0
PartOctets level Ends octets = octets ≡ end_of_contents
PartOctets level Passes octets = Item level 1 octets
PartOctets level Opens octets =
    (id : List ℕ) × (t : Tag) × IsIdentifier Ber id t true × (octets ≡ id ++ indefinite_octet ∷ [])
    × (level < 64)

-- one turn succeeded
pub record PartRead (level : ℕ) (part : Part) (s t : ReaderState) : Type 0 where
  pub octets : List ℕ
  pub working : s.failed ≡ false
  pub is_part : PartOctets level part octets
  pub reads : Reads s t octets

-- one turn failed, with `level` bodies open
abbrev pub RefusesPart : ℕ → ReaderState → Error → ReaderState → Type 0
RefusesPart level = IsRefusedBy (λ rules. ScanFault level)
