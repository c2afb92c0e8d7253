use Rattle.std.proofs.Common.{◌≡◌, sym, ◌∙◌, subst, List, ℕ}
use Rattle.ber.specs.Header.{IsNext}
use Rattle.ber.specs.declared.header.Header.{Header}
use Rattle.ber.proofs.GrammarLemmas.{one_header}
use Rattle.schema_read.specs.Members.{IsTagBefore, IsTagAfter}
use Rattle.schema_read.proofs.VerdictLemmas.{kept}
use Rattle.schema_read.proofs.tag_order.tag_order_rule.Goals as goal

one_next : {h g : Header} {octets : List ℕ} → IsNext h octets → IsNext g octets → h ≡ g
one_next a b = (one_header a.is b.is a.rest b.rest (sym a.split ∙ b.split)).0

pub returns-then-is_tag_before : goal.returns-then-is_tag_before
returns-then-is_tag_before c =
    kept {P = λ rules. IsTagAfter rules c.args.before.now c.args.octets.now} (λ rules der h g next other.
    subst (λ (q : Header). IsTagBefore h q) (one_next c.in-Ok-read_header.ensures.found other)
    (subst (λ (q : Header). IsTagBefore q c.in-Ok-read_header.second) (one_next c.in-Ok.ensures.found next)
    (c.is_tag_before.ensures.0 c.if-is_tag_before.true)))

pub returns-in-Err-read_header : goal.returns-in-Err-read_header
returns-in-Err-read_header c =
    kept {P = λ rules. IsTagAfter rules c.args.before.now c.args.octets.now}
    (λ rules der h g next other. absurd (c.in-Err-read_header.ensures.none g other))

pub returns-in-Err : goal.returns-in-Err
returns-in-Err c =
    kept {P = λ rules. IsTagAfter rules c.args.before.now c.args.octets.now}
    (λ rules der h g next other. absurd (c.in-Err.ensures.none h next))
