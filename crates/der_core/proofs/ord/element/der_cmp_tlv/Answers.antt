use Rattle.std.proofs.Common.{◌≡◌, Ok, sym, ap, ◌∙◌}
use Rattle.der_base.specs.Length.{number}
use Rattle.der_base.specs.HeaderGrammar.{header_octets}
use Rattle.der_base.specs.Order.{byte_order}
use Rattle.der_core.specs.DerOrd.{then_compared}
use Rattle.der_core.proofs.OrdLemmas.{decided, unequal_decides}
use Rattle.der_core.proofs.ord.element.der_cmp_tlv.Goals as goal

pub returns-in-Equal : goal.returns-in-Equal
returns-in-Equal g c =
    let a = c.args.value.now in
    let b = c.args.other.now in
    let v = g.T.ValueOrd.value_order a b in
    let this = c.in_ok-this in
    let that = c.in_ok-that in
    let r = c.in_ok-ordering in
    let e : r.ordering ≡ byte_order (header_octets this.this.tag (number this.this.length)) (header_octets that.that.tag (number that.that.length)) = let o = r.ensures.exact in cc in
    decided (g.T.Tagged.tag_of a) (g.T.Tagged.tag_of b) (g.T.WrittenValue.contents a) (g.T.WrittenValue.contents b) (g.T.EncodeValue.value_size a) (g.T.EncodeValue.value_size b)
    this.this that.that r.ordering v c.value_cmp.result this.ensures.exact this.ensures.ok that.ensures.exact that.ensures.ok e
    (c.value_cmp.ensures ∙ ap (λ o. then_compared o v) (sym c.in-Equal.is))

pub returns-in_default : goal.returns-in_default
returns-in_default g c =
    let a = c.args.value.now in
    let b = c.args.other.now in
    let v = g.T.ValueOrd.value_order a b in
    let this = c.in_ok-this in
    let that = c.in_ok-that in
    let r = c.in_ok-ordering in
    let e : r.ordering ≡ byte_order (header_octets this.this.tag (number this.this.length)) (header_octets that.that.tag (number that.that.length)) = let o = r.ensures.exact in cc in
    decided (g.T.Tagged.tag_of a) (g.T.Tagged.tag_of b) (g.T.WrittenValue.contents a) (g.T.WrittenValue.contents b) (g.T.EncodeValue.value_size a) (g.T.EncodeValue.value_size b)
    this.this that.that r.ordering v (Ok r.ordering) this.ensures.exact this.ensures.ok that.ensures.exact that.ensures.ok e
    (unequal_decides r.ordering v c.in_default.not-Equal)
