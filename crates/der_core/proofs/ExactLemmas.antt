-- Values read from exactly their encodings under DER: tags, lengths, headers and `PhantomData`.
use Rattle.std.proofs.Common.{◌≡◌, ℕ, ◌^◌, ◌<◌, List, [], ◌++◌, length, refl, sym, ap, ◌∙◌}
use Rattle.std.specs.declared.marker.PhantomData.{PhantomData}
use Rattle.der_base.specs.Length.{number, definite_length, length_octets}
use Rattle.der_base.specs.Tag.{label, tag_octets}
use Rattle.der_base.specs.HeaderGrammar.{Head, header_octets, TagNext, LengthNext}
use Rattle.der_base.specs.declared.encoding_rules.EncodingRules.{EncodingRules}
use Rattle.der_base.specs.declared.encoding_rules.EncodingRules.TheVariants.{Der}
use Rattle.der_base.proofs.HeaderLemmas.{header_front}
use Rattle.der_base.proofs.LengthLemmas.{length_front}
use Rattle.der_base.proofs.TagLemmas.{tag_front}
use Rattle.der_core.specs.Header.{head_of, HeaderNext}
use Rattle.der_core.specs.Lawful.{definite_head, ReadsEncodings, ReadsExactly, IsDefinite, IsDefiniteHeader}
use Rattle.der_core.specs.declared.header.Header.{Header}
use Rattle.der_core.proofs.DerLemmas.{tags_are_encodings, lengths_are_encodings, headers_are_encodings, nothing_is_encoding}
use Rattle.der_core.proofs.LawfulLemmas.{whole_encodings, passed_encodings}

-- exactly the encodings are read, if octets begin with the encoding of at most one valid value
pub reads_exactly : {A : Type 0} {Next : A → EncodingRules → List ℕ → ℕ → Type 0} {valid : A → Type 0} {encoding : A → List ℕ} → ReadsEncodings Next valid encoding
    → ((v w : A) (x y : List ℕ) → valid v → valid w → encoding v ++ x ≡ encoding w ++ y → v ≡ w) → ReadsExactly Next valid encoding
reads_exactly {A} {Next} {valid} {encoding} reads one =
    record {
      front = reads;
      whole = whole_encodings reads;
      passed = passed_encodings reads;
      written = record {
        next = λ v more is short. reads.every _ v _ short (record { is_valid = is; following = more; split = refl; whole = refl });
        alone = alone;
      };
    }
  where
    alone : (v w : A) (more : List ℕ) (m : ℕ) → valid v → Next w Der (encoding v ++ more) m → (w ≡ v) × (m ≡ length (encoding v))
    alone v w more m is h =
        let e = reads.only (encoding v ++ more) w m h in
        let same : w ≡ v = sym (one v w more e.following is e.is_valid e.split) in
        (same, e.whole ∙ ap (λ x. length (encoding x)) same)

pub tags_exactly : ReadsExactly TagNext (λ t. (label t).number < 2 ^ 32) tag_octets
tags_exactly = reads_exactly tags_are_encodings (λ t u x y _ _ e. (tag_front t u x y e).0)

pub lengths_exactly : ReadsExactly LengthNext IsDefinite (λ l. length_octets (number l))
lengths_exactly = reads_exactly lengths_are_encodings (λ l k x y is also e. is.0 ∙ ap definite_length (length_front (number l) (number k) x y e).0 ∙ sym also.0)

abbrev header_of : Head → Header
header_of h = record { tag = h.tag; length = h.length; constructed = h.constructed }

pub headers_exactly : ReadsExactly HeaderNext IsDefiniteHeader (λ h. header_octets (head_of h).tag (number (head_of h).length))
headers_exactly = reads_exactly headers_are_encodings one
  where
    one : (h g : Header) (x y : List ℕ) → IsDefiniteHeader h → IsDefiniteHeader g → header_octets (head_of h).tag (number (head_of h).length) ++ x ≡ header_octets (head_of g).tag (number (head_of g).length) ++ y → h ≡ g
    one h g x y is also e =
        let f = header_front (head_of h).tag (head_of g).tag (number (head_of h).length) (number (head_of g).length) x y e in
        ap header_of (is.says ∙ ap (λ t. definite_head t (number (head_of h).length)) f.0 ∙ ap (definite_head (head_of g).tag) f.1 ∙ sym also.says)

pub nothing_exactly : {T : Type 0} → ReadsExactly (λ (v : PhantomData T) _ _ m. m ≡ 0) (λ _. Unit {0}) (λ _. [])
nothing_exactly = reads_exactly nothing_is_encoding (λ v w x y _ _ _. refl)
