use Rattle.std.proofs.Common.{arith, ap, sym, ◌∙◌, subst, ◌/◌, ◌%◌}
use Rattle.der_base.specs.Length.{number}
use Rattle.der_base.specs.Tag.{label, leading_octet}
use Rattle.der_core.specs.Writer.{Appends}
use Rattle.der_core.proofs.EncodeLemmas.{header_at_once, header_of_two, header_of_three, header_of_four}
use Rattle.der_core.proofs.header.HeaderEncode.encode.Goals as goal

pub returns-then-has_space-clause-ok : goal.returns-then-has_space-clause-ok
returns-then-has_space-clause-ok g c =
    let first = c.first_octet_of-first.ensures ∙ ap (leading_octet (label c.args.self.now.tag)) c.number-number.ensures in
    let e = header_of_two c.args.self.now.tag (number c.args.self.now.length) c.first_octet_of-first.result _ (omega (arith, c.number-number.ensures, c.if-number-lt31.true)) first (sym c.octet_count-count.ensures.octets ∙ c.if-count-eq1.true) (ap (λ n. n % 256) c.from-length.ensures) in
    subst (λ l. Appends (g.W.Writer.state c.args.writer.now) l c.write.result (g.W.Writer.state c.write.new.self)) e c.write.ensures.ok

pub returns-then-has_space-clause-exact : goal.returns-then-has_space-clause-exact
returns-then-has_space-clause-exact g c reliable =
    let first = c.first_octet_of-first.ensures ∙ ap (leading_octet (label c.args.self.now.tag)) c.number-number.ensures in
    let e = header_of_two c.args.self.now.tag (number c.args.self.now.length) c.first_octet_of-first.result _ (omega (arith, c.number-number.ensures, c.if-number-lt31.true)) first (sym c.octet_count-count.ensures.octets ∙ c.if-count-eq1.true) (ap (λ n. n % 256) c.from-length.ensures) in
    header_at_once c.args.self.now.tag (number c.args.self.now.length) _ (g.W.Writer.state c.args.writer.now) _ _ e (c.has_space.ensures c.if-has_space.true) (c.write.ensures.exact reliable)

pub returns-then-has_space-2-clause-ok : goal.returns-then-has_space-2-clause-ok
returns-then-has_space-2-clause-ok g c =
    let first = c.first_octet_of-first.ensures ∙ ap (leading_octet (label c.args.self.now.tag)) c.number-number.ensures in
    let e = header_of_three c.args.self.now.tag (number c.args.self.now.length) c.first_octet_of-first.result _ (omega (arith, c.number-number.ensures, c.if-number-lt31.true)) first (sym c.octet_count-count.ensures.octets ∙ c.if-count-eq2.true) (ap (λ n. n % 256) c.from-length.ensures) in
    subst (λ l. Appends (g.W.Writer.state c.args.writer.now) l c.write-then-has_space-2.result (g.W.Writer.state c.write-then-has_space-2.new.self)) e c.write-then-has_space-2.ensures.ok

pub returns-then-has_space-2-clause-exact : goal.returns-then-has_space-2-clause-exact
returns-then-has_space-2-clause-exact g c reliable =
    let first = c.first_octet_of-first.ensures ∙ ap (leading_octet (label c.args.self.now.tag)) c.number-number.ensures in
    let e = header_of_three c.args.self.now.tag (number c.args.self.now.length) c.first_octet_of-first.result _ (omega (arith, c.number-number.ensures, c.if-number-lt31.true)) first (sym c.octet_count-count.ensures.octets ∙ c.if-count-eq2.true) (ap (λ n. n % 256) c.from-length.ensures) in
    header_at_once c.args.self.now.tag (number c.args.self.now.length) _ (g.W.Writer.state c.args.writer.now) _ _ e (c.has_space-then-count-eq2.ensures c.if-has_space-2.true) (c.write-then-has_space-2.ensures.exact reliable)

pub returns-then-has_space-3-clause-ok : goal.returns-then-has_space-3-clause-ok
returns-then-has_space-3-clause-ok g c =
    let first = c.first_octet_of-first.ensures ∙ ap (leading_octet (label c.args.self.now.tag)) c.number-number.ensures in
    let e = header_of_four c.args.self.now.tag (number c.args.self.now.length) c.first_octet_of-first.result _ _ (omega (arith, c.number-number.ensures, c.if-number-lt31.true)) first (sym c.octet_count-count.ensures.octets ∙ c.if-count-eq3.true) (ap (λ n. n / 256 % 256) c.from-length.ensures) (ap (λ n. n % 256) c.from-length.ensures) in
    subst (λ l. Appends (g.W.Writer.state c.args.writer.now) l c.write-then-has_space-3.result (g.W.Writer.state c.write-then-has_space-3.new.self)) e c.write-then-has_space-3.ensures.ok

pub returns-then-has_space-3-clause-exact : goal.returns-then-has_space-3-clause-exact
returns-then-has_space-3-clause-exact g c reliable =
    let first = c.first_octet_of-first.ensures ∙ ap (leading_octet (label c.args.self.now.tag)) c.number-number.ensures in
    let e = header_of_four c.args.self.now.tag (number c.args.self.now.length) c.first_octet_of-first.result _ _ (omega (arith, c.number-number.ensures, c.if-number-lt31.true)) first (sym c.octet_count-count.ensures.octets ∙ c.if-count-eq3.true) (ap (λ n. n / 256 % 256) c.from-length.ensures) (ap (λ n. n % 256) c.from-length.ensures) in
    header_at_once c.args.self.now.tag (number c.args.self.now.length) _ (g.W.Writer.state c.args.writer.now) _ _ e (c.has_space-then-count-eq3.ensures c.if-has_space-3.true) (c.write-then-has_space-3.ensures.exact reliable)
