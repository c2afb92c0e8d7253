use Rattle.std.proofs.Common.{◌≡◌, ℕ, Ok, ◌∙◌, ap, sym}
use Rattle.std.specs.Ordering.{nat_cmp}
use Rattle.std.specs.Int.Digits.{number_from_digits}
use Rattle.der_base.specs.Order.{byte_order}
use Rattle.der_base.specs.Tag.{tag_octets}
use Rattle.der_base.proofs.EqualityLemmas.{tag_equality}
use Rattle.der_base.proofs.OrderLemmas.{equal_octets}
use Rattle.der_core.specs.DerOrd.{six_octets}
use Rattle.der_core.proofs.TagOrderLemmas.{tag_order}
use Rattle.der_core.proofs.tag.TagDerOrd.der_cmp.Goals as goal

pub returns-then-eq : goal.returns-then-eq
returns-then-eq c =
    let t = c.args.self.now in
    let u = c.args.other.now in
    let reported = tag_equality t u in
    let same : t ≡ u = reported.0 (sym c.eq.ensures ∙ c.if-eq.true) in
    let e = sym (equal_octets (tag_octets t) (tag_octets u) (ap tag_octets same)) in
    record { ok = λ _. e; complete = λ _ _ _. ap Ok e; exact = ap Ok e }

pub returns : goal.returns
returns c =
    let t = c.args.self.now in
    let u = c.args.other.now in
    let e : c.cmp.result ≡ byte_order (tag_octets t) (tag_octets u) =
    c.cmp.ensures
    ∙ ap (λ (m : ℕ). nat_cmp m c.left_aligned-2.result) c.left_aligned.ensures.number
    ∙ ap (nat_cmp (number_from_digits 256 (six_octets (tag_octets t)))) c.left_aligned-2.ensures.number
    ∙ tag_order t u c.left_aligned.ensures.few c.left_aligned-2.ensures.few in
    record { ok = λ _. e; complete = λ _ _ _. ap Ok e; exact = ap Ok e }
