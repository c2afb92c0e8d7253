use Rattle.std.proofs.Common.{rules, ◌≡◌, ◌-◌, ◌∙◌, false, [], length, take, ap, subst, arith}
use Rattle.schema_read.specs.Items.{IsAnyCount}
use Rattle.schema_read.specs.Value.{IsAny, IsUnknownType}
use Rattle.schema_read.specs.Verdict.{worst}
use Rattle.schema_read.specs.Reading.{Body, Finds}
use Rattle.schema_read.proofs.VerdictLemmas.{kept, worst_neither, logs_is, logs_then, logs_after, logs_left}
use Rattle.schema_read.proofs.FindsLemmas.{finds_is, finds_never, finds_at, body_at, status_is, status_then, status_ends}
use Rattle.schema_read.proofs.EnclosedLemmas.{finds_element, no_element_cut, taken}
use Rattle.schema_read.proofs.ItemLemmas.{items_end, item_plain, goes_on, has_ended}
use Rattle.schema_read.proofs.UntypedLemmas.{AnyContents, any_finds, any_elements, no_any, no_any_cut, test_is, finds_constructed, finds_primitive}
use Rattle.schema_read.proofs.ResultLemmas.{if_ok}
use Rattle.schema_read.proofs.untyped.+untyped.Goals as goal

pub any-returns-in-Err-clause-finds : goal.any-returns-in-Err-clause-finds
any-returns-in-Err-clause-finds t c =
    if_ok c.pass.result (λ o e. finds_never e (no_any c.args.depth c.in-Err.ensures.none)) c.pass.ensures.verdict

pub any-returns-in_ok-outcome-in-Some-clause-finds :
    goal.any-returns-in_ok-outcome-in-Some-clause-finds
any-returns-in_ok-outcome-in-Some-clause-finds t c =
    finds_is c.and.ensures
    (any_finds c.args.depth c.in-Ok.ensures.some
    (finds_element c.in_ok-allowed.allowed c.in-Some.ensures.some c.in-Ok.ensures.real c.in-Ok.ensures.known
    c.in_ok-allowed.ensures.verdict
    (subst (λ u. Finds (λ rules. Body c.in-Some.opened.marked c.in-Some.opened.beyond.now (IsUnknownType rules (IsAny (c.args.depth - 1)) u c.in-Ok.header.constructed) c.in-Some.opened.inside.octets.now) c.in_ok-outcome-in-Some.outcome.verdict c.in_ok-outcome-in-Some.outcome.rest.now) c.universal.ensures c.in_ok-outcome-in-Some.ensures.finds)))

pub any-returns-in_ok-outcome-in-Some-clause-log :
    goal.any-returns-in_ok-outcome-in-Some-clause-log
any-returns-in_ok-outcome-in-Some-clause-log t c =
    logs_is c.and.ensures (logs_left c.leave.ensures.log (logs_after c.in_ok-at.ensures.log (logs_then c.in_ok-allowed.ensures.log c.in_ok-outcome-in-Some.ensures.log)))

pub any-returns-in_ok-cut-in-None-clause-finds : goal.any-returns-in_ok-cut-in-None-clause-finds
any-returns-in_ok-cut-in-None-clause-finds t c =
    finds_never (c.and-in-None.ensures ∙ ap (λ v. worst c.in_ok-allowed.allowed v) c.in_ok-cut-in-None.ensures.verdict ∙ worst_neither c.in_ok-allowed.allowed)
    (no_any_cut c.args.depth (no_element_cut (AnyContents (c.args.depth - 1)) c.in-None.ensures.none.0 c.in-Ok.ensures.next c.in-None.ensures.none.1 c.in-None.ensures.none.2))

pub any-returns-in_ok-cut-in-None-clause-log : goal.any-returns-in_ok-cut-in-None-clause-log
any-returns-in_ok-cut-in-None-clause-log t c =
    logs_is c.and-in-None.ensures (logs_after c.in_ok-at.ensures.log (logs_then c.in_ok-allowed.ensures.log c.in_ok-cut-in-None.ensures.log))

pub elements-elements-preserved : goal.elements-elements-preserved
elements-elements-preserved t c =
    let now = c.elements.rest.now in
    let after = c.in_ok-outcome.outcome.rest.now in
    let finds = finds_at (IsAny c.args.depth) c.at-in-elements.ensures.octets c.in_ok-outcome.ensures.finds in
    let here = take (length now - length after) now in
    let on = goes_on c.is_ended.result c.is_ended.ensures c.at.ensures.marked c.at.ensures.octets (search rules) in
    record {
      status = (here, status_is c.and-verdict.ensures (status_then c.elements.invariant.status.1 (item_plain c.args.opened.marked c.args.opened.beyond.now c.elements.invariant.status.0 now after here on finds (λ x e. taken now x after e))));
      log = logs_is c.and-verdict.ensures (logs_then c.elements.invariant.log c.in_ok-outcome.ensures.log);
      end = c.in_ok-outcome.ensures.end ∙ c.elements.invariant.end;
      shorter = omega (arith, c.elements.invariant.shorter, c.in_ok-outcome.ensures.shorter, ap length c.at-in-elements.ensures.octets);
    }

pub elements-returns-clause-finds : goal.elements-returns-clause-finds
elements-returns-clause-finds t c =
    let m = c.args.opened.marked in
    let b = c.args.opened.beyond.now in
    let now = c.elements.rest.now in
    let before = c.elements.invariant.status.0 in
    let at = has_ended c.is_ended.result c.is_ended.ensures c.at.ensures.marked c.at.ensures.octets (search rules) in
    let end = body_at (λ rules inner. inner ≡ []) c.at-2.ensures.marked c.at-2.ensures.beyond c.at-2.ensures.octets c.in_ok-end.ensures.finds in
    finds_is c.and.ensures (status_ends c.elements.invariant.status.1
    (items_end false (λ rules. IsAny c.args.depth rules) IsAnyCount (any_elements c.args.depth) m b before now at (kept (λ r. tt)) end))

pub elements-returns-clause-log : goal.elements-returns-clause-log
elements-returns-clause-log t c =
    logs_is c.and.ensures (logs_then c.elements.invariant.log c.in_ok-end.ensures.log)

pub unknown_contents-returns-then-constructed-clause-finds :
    goal.unknown_contents-returns-then-constructed-clause-finds
unknown_contents-returns-then-constructed-clause-finds t c =
    finds_is c.and.ensures
    (finds_constructed c.args.depth c.args.universal c.args.constructed c.args.opened.marked c.args.opened.beyond.now c.args.opened.inside.octets.now c.if-constructed.true
    (test_is c.in_ok-verdict.ensures.verdict c.form_rule.ensures) c.in_ok-outcome.ensures.finds)

pub unknown_contents-returns-then-constructed-clause-log :
    goal.unknown_contents-returns-then-constructed-clause-log
unknown_contents-returns-then-constructed-clause-log t c =
    logs_is c.and.ensures (logs_then c.in_ok-verdict.ensures.log c.in_ok-outcome.ensures.log)

pub unknown_contents-returns-clause-finds : goal.unknown_contents-returns-clause-finds
unknown_contents-returns-clause-finds t c =
    finds_primitive c.args.depth c.args.universal c.args.constructed c.args.opened.marked c.args.opened.beyond.now c.args.opened.inside.octets.now
    c.if-constructed.false (c.requires.form c.if-constructed.false)
    (test_is c.in_ok-verdict-2.ensures.verdict c.primitive_rule-rule.ensures)
