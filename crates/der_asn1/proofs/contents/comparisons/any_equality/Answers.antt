use Rattle.std.proofs.Common.{◌≡◌, ◌&&◌, sym, ◌∙◌, refl}
use Rattle.std.specs.Cmp.{first_so, second_so}
use Rattle.std.specs.Str.{bytes_eq}
use Rattle.std.proofs.lemmas.Slice.Eq.{bytes_eq-Decides}
use Rattle.der_base.specs.contracts.tag.TagPartialEq.TheImpl as tag
use Rattle.der_base.proofs.EqualityLemmas.{tag_equality}
use Rattle.der_asn1.specs.AnyRef.{any_contents}
use Rattle.der_asn1.proofs.contents.comparisons.any_equality.Goals as goal

pub returns : goal.returns
returns c =
    let a = c.args.a.now in
    let b = c.args.b.now in
    let means : c.eq.result ≡ tag.ghosts.eq a.tag b.tag && bytes_eq (any_contents a) (any_contents b) = c.eq.ensures in
    let tags = tag_equality a.tag b.tag in
    let octets = bytes_eq-Decides (any_contents a) (any_contents b) in (
      λ is. let both = sym means ∙ is in (tags.0 (first_so _ _ both), octets.0 (second_so (tag.ghosts.eq a.tag b.tag) _ both)),
      λ same. means ∙ rw (tags.1 same.0, octets.1 same.1) refl,
    )
