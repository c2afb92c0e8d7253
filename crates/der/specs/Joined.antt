-- The relation between segments and the octets they are joined to (X.690 8.7.3): `Joined`.
use Rattle.std.specs.Prelude.{◌≡◌, ℕ, suc, ◌^◌, ◌<◌, true, false, List, [], ◌∷◌, ◌++◌, length}
use Rattle.der_base.specs.Body.{Body}
use Rattle.der_base.specs.FixedOctets.{indefinite_octet, end_of_contents}
use Rattle.der_base.specs.Length.{length_octets}
use Rattle.der_base.specs.Tag.{label, IsIdentifier}
use Rattle.der_base.specs.declared.tag.Tag.{Tag}
use Rattle.der_base.specs.declared.encoding_rules.EncodingRules.TheVariants.{Ber}
use Rattle.der_core.specs.Encode.{element_octets}

-- whole elements with this tag, in sequence, and the concatenation of what they contribute, in the
-- same order: a primitive element of definite length contributes its contents; a constructed
-- element, if a level is left, contributes the joined segments of its contents, with one level
-- fewer; its length may be indefinite, and its end-of-contents octets are then not part of the
-- contents
pub data Joined (tag : Tag) : ℕ → List ℕ → List ℕ → Type 0 where
  none : {levels : ℕ} → Joined tag levels [] []
  segment : {levels : ℕ} {more out : List ℕ} (contents : List ℕ)
      → (label tag).constructed ≡ false → length contents < 2 ^ 32 → Joined tag levels more out
      → Joined tag levels (element_octets tag contents ++ more) (contents ++ out)
  definite_segments : {levels : ℕ} {id more within out : List ℕ} (contents : List ℕ)
      → IsIdentifier Ber id tag true → length contents < 2 ^ 32
      → Joined tag levels contents within → Joined tag (suc levels) more out
      → Joined tag (suc levels) ((id ++ (length_octets (length contents) ++ contents)) ++ more)
      (within ++ out)
  indefinite_segments : {levels parts : ℕ} {id more within out : List ℕ} (contents : List ℕ)
      → IsIdentifier Ber id tag true → Body 1 parts (contents ++ end_of_contents)
      → Joined tag levels contents within → Joined tag (suc levels) more out
      → Joined tag (suc levels)
      ((id ++ indefinite_octet ∷ (contents ++ end_of_contents)) ++ more) (within ++ out)
