-- What functions of the reader of constructed strings return: octets that follow, and a text.
use Rattle.std.specs.Prelude.{◌≡◌, ◌↔◌, ℕ, Bool, true, false, List, [], ◌∷◌, ◌++◌}
use Rattle.der_base.specs.declared.encoding_rules.EncodingRules.TheVariants.{Ber}
use Rattle.schema_read.specs.Reading.{Body}
use Rattle.schema_read.specs.Strings.{Texts, IsJoined, AreTexts}
use Rattle.schema_read.specs.Verdict.{holds}
use Rattle.schema_read.specs.declared.verdict.Verdict.{Verdict}

-- a text begins with the number of its unused bits, if it is one of bits
abbrev pub IsText : Bool → List ℕ → Type 0
IsText true text = (unused : ℕ) × (octets : List ℕ) × (text ≡ unused ∷ octets)
IsText false text = Unit {0}

-- another text may follow it: it has no unused bits
abbrev pub IsWhole : Bool → List ℕ → Type 0
IsWhole true text = (octets : List ℕ) × (text ≡ 0 ∷ octets)
IsWhole false text = Unit {0}

-- octets begin with a segment, which is joined to the text before it
abbrev pub BeginsAfter : Bool → Texts → List ℕ → List ℕ → Texts
BeginsAfter bits Is before octets rest text =
    (own : List ℕ) × ((x : List ℕ) × (octets ≡ x ++ rest) × Is x own)
    × IsJoined bits (before ∷ own ∷ []) text

-- contents have a text, which is joined to the text before it
abbrev pub BodyAfter : Bool → List ℕ → Bool → List ℕ → Texts → List ℕ → Texts
BodyAfter marked beyond bits before Has octets rest text =
    (own : List ℕ) × Body marked beyond (λ inner. Has inner own) octets rest
    × IsJoined bits (before ∷ own ∷ []) text

-- contents are segments, which are joined to the text before them
abbrev pub MoreAfter : Bool → List ℕ → Bool → Texts → List ℕ → List ℕ → Texts
MoreAfter marked beyond bits Is before octets rest text =
    Body marked beyond
    (λ inner. (ts : List (List ℕ)) × AreTexts Is ts inner × IsJoined bits (before ∷ ts) text)
    octets rest

-- under BER exactly these octets follow, and this is the text; or there is no such encoding
pub record Reads (Is : Texts) (v : Verdict) (rest text : List ℕ) : Type 0 where
  pub exact : holds Ber v ≡ true → (r t : List ℕ) → Is r t ↔ ((r ≡ rest) × (t ≡ text))
  pub none : holds Ber v ≡ false → (r t : List ℕ) → Is r t → ⊥

-- under BER the whole holds exactly if the rest does; or it does not
pub record Stage (v : Verdict) (Rest Whole : Texts) : Type 0 where
  pub good : holds Ber v ≡ true → (r t : List ℕ) → Rest r t ↔ Whole r t
  pub bad : holds Ber v ≡ false → (r t : List ℕ) → Whole r t → ⊥
