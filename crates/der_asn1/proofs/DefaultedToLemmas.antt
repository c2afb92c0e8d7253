-- Lemmas on DEFAULT fields whose default is given by its contents octets.
use Rattle.std.proofs.Common.{◌≡◌, ℕ, true, List, sym, ap, subst}
use Rattle.std.specs.Str.{bytes_eq}
use Rattle.std.proofs.lemmas.Slice.Eq.{bytes_eq-Decides}
use Rattle.der.specs.Prelude.{Head, Tag, EncodingRules, Der, ElementNext, IsLawful}
use Rattle.der.proofs.LawfulLemmas.{elements_are_encodings, written_is_read}
use Rattle.der_asn1.specs.DefaultedTo.{has_contents}

-- under DER two values at the start of the same octets have the same contents
pub lawful_contents : {A : Type 0} {tag : Tag} {takes : A → EncodingRules → Head → List ℕ → Type 0} {valid : A → Type 0} {contents : A → List ℕ} {levels : EncodingRules → ℕ} → IsLawful tag takes valid contents levels → (v w : A) (octets : List ℕ) (m n : ℕ)
    → ElementNext tag takes v Der octets m → ElementNext tag takes w Der octets n → contents v ≡ contents w
lawful_contents {tag = tag} {takes} laws v w octets m n one two =
    let e = (elements_are_encodings laws).only octets v m one in
    sym ((written_is_read laws).alone v w e.following n (subst (λ x. ElementNext tag takes w Der x n) e.split two)).0

-- so both are the default or neither is
pub lawful_default : {A : Type 0} {tag : Tag} {takes : A → EncodingRules → Head → List ℕ → Type 0} {valid : A → Type 0} {contents : A → List ℕ} {levels : EncodingRules → ℕ} (default : List ℕ) → IsLawful tag takes valid contents levels → (v w : A) (octets : List ℕ) (m n : ℕ)
    → ElementNext tag takes v Der octets m → ElementNext tag takes w Der octets n → has_contents contents default v ≡ has_contents contents default w
lawful_default default laws v w octets m n one two = ap (λ x. bytes_eq x default) (lawful_contents laws v w octets m n one two)

-- octets are the same as themselves
pub same_contents : (contents default : List ℕ) → contents ≡ default → bytes_eq contents default ≡ true
same_contents contents default e = (bytes_eq-Decides contents default).1 e
