use Rattle.std.proofs.Common.{◌≡◌, ◌∙◌, [], refl, sym, subst}
use Rattle.der_base.specs.declared.encoding_rules.EncodingRules.TheVariants.{Ber}
use Rattle.schema_read.specs.Strings.{AreSegments}
use Rattle.schema_read.specs.Text.{text_of}
use Rattle.schema_read.proofs.join.join_segments.Goals as goal

pub returns-then-is_ber-clause-joined : goal.returns-then-is_ber-clause-joined
returns-then-is_ber-clause-joined c =
    let read = c.in_ok-read.read in
    let found = (c.in_ok-read.ensures.finds.exact Ber (sym c.is_ber.ensures ∙ c.if-is_ber.true) read.rest.now).1 refl in
    let same = c.in_ok-read.ensures.only found.0 read.rest.now found.2.1.0 found.1 found.2.1.1 in
    subst (λ q. AreSegments 64 c.args.universal q (text_of read.text)) (sym found.1.0)
    (subst (λ t. AreSegments 64 c.args.universal found.0 t) same found.2.1.1)

pub returns-else-is_ber-clause-none : goal.returns-else-is_ber-clause-none
returns-else-is_ber-clause-none c text are =
    c.in_ok-read.ensures.finds.none Ber (sym c.is_ber.ensures ∙ c.if-is_ber.false) [] (c.args.contents.now, (refl, refl), (refl, (text, are)))
