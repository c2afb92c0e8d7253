use Rattle.std.proofs.Common.{rules, ◌≡◌, ◌↔◌, ◌+◌, ◌-◌, ◌∙◌, false, true, [], length, take, refl, sym, ap, subst, ℕ, suc, List, None, Some, slice_get, arith}
use Rattle.ber.specs.Element.{IsElement}
use Rattle.schema_types.specs.declared.field.Field.{Field}
use Rattle.schema_read.specs.Seen.{fields_of}
use Rattle.schema_read.specs.Constraints.{IsAllowedSize}
use Rattle.schema_read.specs.Types.{types_in}
use Rattle.schema_read.specs.Known.{known_in, Follows}
use Rattle.schema_read.specs.Verdict.{holds, worst}
use Rattle.schema_read.specs.declared.verdict.Verdict.TheVariants.{Der}
use Rattle.schema_read.specs.Components.{MayBeAbsent, IsComponent, AreComponents, AreFrom}
use Rattle.schema_read.specs.Items.{SomeItems}
use Rattle.schema_read.specs.Value.{IsValue, IsAny, IsNode, IsUnknownType, AreBounded, IsContained, shape_of, is_constructed, IsOfType}
use Rattle.schema_read.specs.Reading.{Front, Body, Finds, Status}
use Rattle.schema_read.specs.declared.shape.Shape.TheVariants.{Components, Members, Of, Items, SortedItems, Inner, Untyped}
use Rattle.schema_read.proofs.VerdictLemmas.{logs_none, worst_neither, worst_assoc, logs_is, logs_then, logs_after, logs_left}
use Rattle.schema_read.proofs.FindsLemmas.{finds_is, finds_never, finds_at, body_at, status_is, status_same, status_then, status_ends}
use Rattle.schema_read.proofs.EnclosedLemmas.{finds_element, taken}
use Rattle.schema_read.proofs.ItemLemmas.{items_end, item_found, item_counted, items_begin, some_left, inner_found, goes_on, has_ended}
use Rattle.schema_read.specs.Members.{is_seen, ArePresent, SomeMembers}
use Rattle.schema_read.proofs.MemberLemmas.{IsSomeMember, member_of_field, member_of_none, finds_component, finds_addition, member_found, members_end}
use Rattle.schema_read.proofs.UntypedLemmas.{any_elements, test_is}
use Rattle.schema_read.proofs.WholeLemmas.{both_tests, finds_also, whole_found, exact_of, contains_value}
use Rattle.schema_read.specs.declared.verdict.Verdict.{Verdict}
use Rattle.der_base.specs.declared.encoding_rules.EncodingRules.{EncodingRules}
use Rattle.schema_read.proofs.ComponentLemmas.{component_found, component_absent, component_missing, none_later, status_next, status_at}
use Rattle.schema_read.proofs.ResultLemmas.{if_ok}
use Rattle.schema_read.proofs.ValueLemmas.{value_begins, finds_selected, finds_node, finds_chosen, no_value, no_value_of_tag, no_node_cut, value_elements, identifier_element, component_finds, finds_given, finds_inner, finds_shape, finds_unbounded, finds_items}
use Rattle.schema_read.proofs.+typed.Goals as goal

pub typed::value-returns-in-Err-clause-finds : goal.typed::value-returns-in-Err-clause-finds
typed::value-returns-in-Err-clause-finds t c =
    if_ok c.pass.result (λ o e. finds_never e (no_value (types_in c.args.schema.now.octets.now) c.args.depth (known_in c.args.known) c.args.node c.in-Err.ensures.none)) c.pass.ensures.verdict

pub typed::value-returns-in-Some-clause-finds : goal.typed::value-returns-in-Some-clause-finds
typed::value-returns-in-Some-clause-finds t c =
    if_ok c.selected_value.result (λ o f. finds_selected c.args.depth (known_in c.args.known) c.args.node c.in-Some.selected.node c.in-Ok.ensures.some c.requires.distinct c.in-Ok.ensures.next c.in-Some.ensures.found f) c.selected_value.ensures.finds

pub typed::value-returns-in_ok-outcome-in-None-clause-finds :
    goal.typed::value-returns-in_ok-outcome-in-None-clause-finds
typed::value-returns-in_ok-outcome-in-None-clause-finds t c =
    finds_never (c.and.ensures ∙ ap (λ v. worst v c.in_ok-outcome-in-None.outcome.verdict) c.in_ok-verdict-in-None.ensures.verdict)
    (no_value_of_tag (types_in c.args.schema.now.octets.now) c.args.depth (known_in c.args.known) c.args.node c.in-Ok.ensures.next c.in-None.ensures.none)

pub typed::value-returns-in_ok-outcome-in-None-clause-log :
    goal.typed::value-returns-in_ok-outcome-in-None-clause-log
typed::value-returns-in_ok-outcome-in-None-clause-log t c =
    logs_is c.and.ensures (logs_then c.in_ok-verdict-in-None.ensures.log c.in_ok-outcome-in-None.ensures.log)

pub typed::selected_value-returns-in-Some-clause-finds : goal.typed::selected_value-returns-in-Some-clause-finds
typed::selected_value-returns-in-Some-clause-finds t c =
    if_ok c.value.result (λ o f n row.
    let both : Some c.node_of-node.result ≡ Some n = sym c.node_of-node.ensures.value ∙ row in
    let it : c.node_of-node.result ≡ n = cc in
    subst (λ q. Finds (λ rules. Front (IsNode rules (types_in c.args.schema.now.octets.now) (IsValue (types_in c.args.schema.now.octets.now) c.args.depth) (IsAny c.args.depth) (known_in c.args.known) q) c.args.place.octets.now) o.verdict o.rest.now) it
    (finds_chosen (known_in c.args.known) c.node_of-node.result c.in-Some.inner c.in-Some.ensures.kind c.in-Some.ensures.found c.in-Some.ensures.single f)) c.value.ensures.finds

pub typed::selected_value-returns-in_ok-outcome-in-Some-after_header-clause-finds :
    goal.typed::selected_value-returns-in_ok-outcome-in-Some-after_header-clause-finds
typed::selected_value-returns-in_ok-outcome-in-Some-after_header-clause-finds t c n row =
    let both : Some c.node_of-node.result ≡ Some n = sym c.node_of-node.ensures.value ∙ row in
    let it : c.node_of-node.result ≡ n = cc in
    finds_is c.and.ensures
    (subst (λ q. Finds (λ rules. Front (IsNode rules (types_in c.args.schema.now.octets.now) (IsValue (types_in c.args.schema.now.octets.now) c.args.depth) (IsAny c.args.depth) (known_in c.args.known) q) c.args.place.octets.now) (worst c.in_ok-allowed-in-None.allowed c.in_ok-outcome-in-Some-after_header.outcome.verdict) c.in_ok-outcome-in-Some-after_header.outcome.rest.now) it
    (finds_node (known_in c.args.known) c.node_of-node.result c.args.header c.requires.next (c.requires.tagged c.node_of-node.result c.node_of-node.ensures.value) c.in-None.ensures.none
    (finds_element c.in_ok-allowed-in-None.allowed c.in-Some-after_header.ensures.some c.requires.real c.requires.known c.in_ok-allowed-in-None.ensures.verdict c.in_ok-outcome-in-Some-after_header.ensures.finds)))

pub typed::selected_value-returns-in_ok-outcome-in-Some-after_header-clause-log :
    goal.typed::selected_value-returns-in_ok-outcome-in-Some-after_header-clause-log
typed::selected_value-returns-in_ok-outcome-in-Some-after_header-clause-log t c =
    logs_is c.and.ensures (logs_left c.leave.ensures.log (logs_after c.in_ok-at-in-None.ensures.log (logs_then c.in_ok-allowed-in-None.ensures.log c.in_ok-outcome-in-Some-after_header.ensures.log)))

pub typed::selected_value-returns-in_ok-cut-in-None-after_header-clause-finds :
    goal.typed::selected_value-returns-in_ok-cut-in-None-after_header-clause-finds
typed::selected_value-returns-in_ok-cut-in-None-after_header-clause-finds t c n row =
    finds_never (c.and-in-None-after_header.ensures ∙ ap (λ v. worst c.in_ok-allowed-in-None.allowed v) c.in_ok-cut-in-None-after_header.ensures.verdict ∙ worst_neither c.in_ok-allowed-in-None.allowed)
    (no_node_cut (types_in c.args.schema.now.octets.now) c.args.depth (known_in c.args.known) n c.in-None-after_header.ensures.none.0 c.requires.next c.in-None-after_header.ensures.none.1 c.in-None-after_header.ensures.none.2)

pub typed::selected_value-returns-in_ok-cut-in-None-after_header-clause-log :
    goal.typed::selected_value-returns-in_ok-cut-in-None-after_header-clause-log
typed::selected_value-returns-in_ok-cut-in-None-after_header-clause-log t c =
    logs_is c.and-in-None-after_header.ensures (logs_after c.in_ok-at-in-None.ensures.log (logs_then c.in_ok-allowed-in-None.ensures.log c.in_ok-cut-in-None-after_header.ensures.log))

pub typed::contents-returns-in-Components-clause-finds : goal.typed::contents-returns-in-Components-clause-finds
typed::contents-returns-in-Components-clause-finds t c =
    let shape : shape_of c.args.node.kind ≡ Components = sym c.of-shape.ensures ∙ c.in-Components.is in
    let on = c.has_wrong_form.ensures.right c.if-has_wrong_form.false (ap is_constructed c.in-Components.is) in
    if_ok c.components.result (λ o f. finds_shape (types_in c.args.schema.now.octets.now) (IsValue (types_in c.args.schema.now.octets.now) c.args.depth) (IsAny c.args.depth) (known_in c.args.known) c.args.node c.args.header c.args.opened.marked c.args.opened.beyond.now c.args.opened.inside.octets.now shape
    (finds_given c.args.opened.marked c.args.opened.beyond.now c.args.opened.inside.octets.now on f)) c.components.ensures.finds

pub typed::contents-returns-in-Of-clause-finds : goal.typed::contents-returns-in-Of-clause-finds
typed::contents-returns-in-Of-clause-finds t c =
    let shape : shape_of c.args.node.kind ≡ Of c.in-Of.universal = sym c.of-shape.ensures ∙ c.in-Of.is in
    if_ok c.of_type.result (λ o f. finds_shape (types_in c.args.schema.now.octets.now) (IsValue (types_in c.args.schema.now.octets.now) c.args.depth) (IsAny c.args.depth) (known_in c.args.known) c.args.node c.args.header c.args.opened.marked c.args.opened.beyond.now c.args.opened.inside.octets.now shape f) c.of_type.ensures.finds

pub typed::contents-returns-in-Items-clause-finds : goal.typed::contents-returns-in-Items-clause-finds
typed::contents-returns-in-Items-clause-finds t c =
    let shape : shape_of c.args.node.kind ≡ Items = sym c.of-shape.ensures ∙ c.in-Items.is in
    let on = c.has_wrong_form.ensures.right c.if-has_wrong_form.false (ap is_constructed c.in-Items.is) in
    if_ok c.items.result (λ o f. finds_shape (types_in c.args.schema.now.octets.now) (IsValue (types_in c.args.schema.now.octets.now) c.args.depth) (IsAny c.args.depth) (known_in c.args.known) c.args.node c.args.header c.args.opened.marked c.args.opened.beyond.now c.args.opened.inside.octets.now shape
    (finds_given c.args.opened.marked c.args.opened.beyond.now c.args.opened.inside.octets.now on f)) c.items.ensures.finds

pub typed::contents-returns-in-SortedItems-clause-finds : goal.typed::contents-returns-in-SortedItems-clause-finds
typed::contents-returns-in-SortedItems-clause-finds t c =
    let shape : shape_of c.args.node.kind ≡ SortedItems = sym c.of-shape.ensures ∙ c.in-SortedItems.is in
    let on = c.has_wrong_form.ensures.right c.if-has_wrong_form.false (ap is_constructed c.in-SortedItems.is) in
    if_ok c.items-in-SortedItems.result (λ o f. finds_shape (types_in c.args.schema.now.octets.now) (IsValue (types_in c.args.schema.now.octets.now) c.args.depth) (IsAny c.args.depth) (known_in c.args.known) c.args.node c.args.header c.args.opened.marked c.args.opened.beyond.now c.args.opened.inside.octets.now shape
    (finds_given c.args.opened.marked c.args.opened.beyond.now c.args.opened.inside.octets.now on f)) c.items-in-SortedItems.ensures.finds

pub typed::contents-returns-in-Inner-clause-finds : goal.typed::contents-returns-in-Inner-clause-finds
typed::contents-returns-in-Inner-clause-finds t c =
    let shape : shape_of c.args.node.kind ≡ Inner = sym c.of-shape.ensures ∙ c.in-Inner.is in
    let on = c.has_wrong_form.ensures.right c.if-has_wrong_form.false (ap is_constructed c.in-Inner.is) in
    if_ok c.explicit.result (λ o f. finds_shape (types_in c.args.schema.now.octets.now) (IsValue (types_in c.args.schema.now.octets.now) c.args.depth) (IsAny c.args.depth) (known_in c.args.known) c.args.node c.args.header c.args.opened.marked c.args.opened.beyond.now c.args.opened.inside.octets.now shape
    (finds_inner (λ rules i. IsValue (types_in c.args.schema.now.octets.now) c.args.depth rules (known_in c.args.known) i) c.args.opened.marked c.args.opened.beyond.now c.args.opened.inside.octets.now c.args.node.inner c.inner_of.result on c.inner_of.ensures f)) c.explicit.ensures.finds

pub typed::contents-returns-in-Untyped-clause-finds : goal.typed::contents-returns-in-Untyped-clause-finds
typed::contents-returns-in-Untyped-clause-finds t c =
    let shape : shape_of c.args.node.kind ≡ Untyped = sym c.of-shape.ensures ∙ c.in-Untyped.is in
    if_ok c.unknown_contents.result (λ o f. finds_shape (types_in c.args.schema.now.octets.now) (IsValue (types_in c.args.schema.now.octets.now) c.args.depth) (IsAny c.args.depth) (known_in c.args.known) c.args.node c.args.header c.args.opened.marked c.args.opened.beyond.now c.args.opened.inside.octets.now shape
    (subst (λ u. Finds (λ rules. Body c.args.opened.marked c.args.opened.beyond.now (IsUnknownType rules (IsAny c.args.depth) u c.args.header.constructed) c.args.opened.inside.octets.now) o.verdict o.rest.now) c.universal.ensures f)) c.unknown_contents.ensures.finds

pub components::component-returns-then-begins-clause-status : goal.components::component-returns-then-begins-clause-status
components::component-returns-then-begins-clause-status t c left size =
    let octets = c.args.opened.inside.octets.now in
    let rest = c.in_ok-outcome.outcome.rest.now in
    let here = take (length octets - length rest) octets in
    let f = c.field_of-field.result in
    let begun = c.begins.ensures.found c.if-begins.true in
    let finds = c.in_ok-outcome.ensures.finds f c.field_of-field.ensures.value in
    status_next (types_in c.args.schema.now.octets.now) (IsValue (types_in c.args.schema.now.octets.now) c.args.depth) (IsAny c.args.depth) c.args.node c.args.opened.marked c.args.opened.beyond.now octets rest left c.args.index (known_in c.args.known) (known_in c.known_after.result)
    (component_found (types_in c.args.schema.now.octets.now) (IsValue (types_in c.args.schema.now.octets.now) c.args.depth) (IsAny c.args.depth) c.args.node c.args.opened.marked c.args.opened.beyond.now octets rest left c.args.index f (known_in c.args.known) (known_in c.known_after.result) c.field_of-field.ensures.value finds
    (λ rules x e is.
    let it : here ≡ x = taken octets x rest e in
    subst (λ y. Follows (slice_get (types_in c.args.schema.now.octets.now).nodes f.node) c.args.index y (known_in c.args.known) (known_in c.known_after.result)) it
    (c.known_after.ensures (λ id. let el = identifier_element (types_in c.args.schema.now.octets.now) c.args.depth rules (known_in c.args.known) f.node x id is.0 in (el.0, el.1, subst (λ y. IsElement el.0 el.1 y) (sym it) el.2))))
    (λ may. none_later (value_begins (types_in c.args.schema.now.octets.now) c.args.depth) (any_elements c.args.depth) c.args.node c.requires.kind (c.requires.distinct c.requires.row.0 c.args.node c.requires.row.1) c.args.opened.marked c.args.opened.beyond.now octets begun.0 begun.1 begun.2 c.args.index f
    (record { part = c.requires.part; row = c.field_of-field.ensures.value }) begun.3 left (suc c.args.index) (known_in c.args.known) (omega arith) (omega (arith, size))
    (λ l g low high is. only may l g (omega (arith, low, high)) is.row)))
  where
    only : MayBeAbsent c.field_of-field.result → (l : ℕ) (g : Field) → l ≡ c.args.index → slice_get (types_in c.args.schema.now.octets.now).fields l ≡ Some g → MayBeAbsent g
    only may l g e row =
        let here : slice_get (types_in c.args.schema.now.octets.now).fields c.args.index ≡ Some g = subst (λ q. slice_get (types_in c.args.schema.now.octets.now).fields q ≡ Some g) e row in
        let both : Some c.field_of-field.result ≡ Some g = sym c.field_of-field.ensures.value ∙ here in
        let it : c.field_of-field.result ≡ g = cc in
        subst MayBeAbsent it may

pub components::field_value-returns-clause-finds : goal.components::field_value-returns-clause-finds
components::field_value-returns-clause-finds t c f row =
    let octets = c.args.place.octets.now in
    let rest = c.in_ok-outcome.outcome.rest.now in
    let here = take (length octets - length rest) octets in
    let both : Some c.field_of-field.result ≡ Some f = sym c.field_of-field.ensures.value ∙ row in
    let it : c.field_of-field.result ≡ f = cc in
    finds_is c.and.ensures
    (subst (λ g. Finds (λ rules. Front (IsComponent (IsValue (types_in c.args.schema.now.octets.now) c.args.depth) rules (types_in c.args.schema.now.octets.now) (known_in c.args.known) g) octets) (worst c.in_ok-outcome.outcome.verdict c.in_ok-encoded.encoded) rest) it
    (component_finds (types_in c.args.schema.now.octets.now) (IsValue (types_in c.args.schema.now.octets.now) c.args.depth) (known_in c.args.known) c.field_of-field.result here c.in_ok-outcome.ensures.finds (λ x e. taken octets x rest e) (test_is c.in_ok-encoded.ensures.verdict c.default_rule.ensures)))

pub components::field_value-returns-clause-log : goal.components::field_value-returns-clause-log
components::field_value-returns-clause-log t c =
    logs_is c.and.ensures (logs_then c.in_ok-outcome.ensures.log c.in_ok-encoded.ensures.log)

pub components::component-returns-then-may_be_absent-clause-status :
    goal.components::component-returns-then-may_be_absent-clause-status
components::component-returns-then-may_be_absent-clause-status t c left size =
    status_next (types_in c.args.schema.now.octets.now) (IsValue (types_in c.args.schema.now.octets.now) c.args.depth) (IsAny c.args.depth) c.args.node c.args.opened.marked c.args.opened.beyond.now c.args.opened.inside.octets.now c.args.opened.inside.octets.now left c.args.index (known_in c.args.known) (known_in c.args.known)
    (component_absent (IsAny c.args.depth) c.args.node (value_begins (types_in c.args.schema.now.octets.now) c.args.depth) c.args.opened.marked c.args.opened.beyond.now c.args.opened.inside.octets.now left c.args.index c.field_of-field.result (known_in c.args.known) c.field_of-field.ensures.value (c.begins.ensures.none c.if-begins.false) (sym c.may_be_absent.ensures ∙ c.if-may_be_absent.true))

pub components::component-returns-then-begins_later-clause-status :
    goal.components::component-returns-then-begins_later-clause-status
components::component-returns-then-begins_later-clause-status t c left size =
    status_next (types_in c.args.schema.now.octets.now) (IsValue (types_in c.args.schema.now.octets.now) c.args.depth) (IsAny c.args.depth) c.args.node c.args.opened.marked c.args.opened.beyond.now c.args.opened.inside.octets.now c.args.opened.inside.octets.now left c.args.index (known_in c.args.known) (known_in c.args.known)
    (status_is c.in_ok-verdict.ensures.verdict (component_missing (IsAny c.args.depth) c.args.node (value_begins (types_in c.args.schema.now.octets.now) c.args.depth) c.args.opened.marked c.args.opened.beyond.now c.args.opened.inside.octets.now c.args.opened.inside.octets.now left c.args.index c.field_of-field.result (known_in c.args.known) (known_in c.args.known) c.field_of-field.ensures.value (c.begins.ensures.none c.if-begins.false) (sym c.may_be_absent.ensures ∙ c.if-may_be_absent.false)))

pub components::component-returns-clause-status : goal.components::component-returns-clause-status
components::component-returns-clause-status t c left size =
    status_next (types_in c.args.schema.now.octets.now) (IsValue (types_in c.args.schema.now.octets.now) c.args.depth) (IsAny c.args.depth) c.args.node c.args.opened.marked c.args.opened.beyond.now c.args.opened.inside.octets.now c.in_ok-outcome-2.outcome.rest.now left c.args.index (known_in c.args.known) (known_in c.args.known)
    (status_is (c.and.ensures ∙ ap (λ v. worst v c.in_ok-outcome-2.outcome.verdict) c.in_ok-verdict-2.ensures.verdict) (component_missing (IsAny c.args.depth) c.args.node (value_begins (types_in c.args.schema.now.octets.now) c.args.depth) c.args.opened.marked c.args.opened.beyond.now c.args.opened.inside.octets.now c.in_ok-outcome-2.outcome.rest.now left c.args.index c.field_of-field.result (known_in c.args.known) (known_in c.args.known) c.field_of-field.ensures.value (c.begins.ensures.none c.if-begins.false) (sym c.may_be_absent.ensures ∙ c.if-may_be_absent.false)))

pub components::component-returns-clause-log : goal.components::component-returns-clause-log
components::component-returns-clause-log t c =
    logs_is c.and.ensures (logs_then c.in_ok-verdict-2.ensures.log c.in_ok-outcome-2.ensures.log)

pub components::components-fields-init : goal.components::components-fields-init
components::components-fields-init t c = record {
  status = λ left size.
      let all : left ≡ c.args.node.parts.count = omega (arith, size) in
      subst (λ n. Status c.in_ok-before.before.verdict (λ rules. Body c.args.opened.marked c.args.opened.beyond.now (AreComponents (IsValue (types_in c.args.schema.now.octets.now) c.args.depth) (IsAny c.args.depth) rules (types_in c.args.schema.now.octets.now) c.args.node n c.args.node.parts.start None) c.in_ok-before.before.rest.now) (λ rules. Body c.args.opened.marked c.args.opened.beyond.now (AreFrom (IsValue (types_in c.args.schema.now.octets.now) c.args.depth) (IsAny c.args.depth) rules (types_in c.args.schema.now.octets.now) c.args.node c.args.node.parts.count c.args.node.parts.start None) c.args.opened.inside.octets.now)) (sym all)
      (c.in_ok-before.ensures.status c.args.node.parts.count None refl);
  low = omega arith;
  high = omega arith;
  log = c.in_ok-before.ensures.log;
  end = c.in_ok-before.ensures.end;
  shorter = c.in_ok-before.ensures.shorter;
}

pub components::components-fields-preserved : goal.components::components-fields-preserved
components::components-fields-preserved t c =
    let Are : ℕ → ℕ → EncodingRules → List ℕ → Type 0 = λ left index rules. AreComponents (IsValue (types_in c.args.schema.now.octets.now) c.args.depth) (IsAny c.args.depth) rules (types_in c.args.schema.now.octets.now) c.args.node left index (known_in c.fields.known) in
    let From : ℕ → EncodingRules → List ℕ → Type 0 = λ left rules. AreFrom (IsValue (types_in c.args.schema.now.octets.now) c.args.depth) (IsAny c.args.depth) rules (types_in c.args.schema.now.octets.now) c.args.node left (c.fields.index + 1) (known_in c.in_ok-step.step.known) in
    let Next : ℕ → EncodingRules → List ℕ → Type 0 = λ left rules. AreComponents (IsValue (types_in c.args.schema.now.octets.now) c.args.depth) (IsAny c.args.depth) rules (types_in c.args.schema.now.octets.now) c.args.node left (c.fields.index + 1) (known_in c.in_ok-step.step.known) in
    record {
      status = λ left size. status_is (c.and-verdict.ensures ∙ ap (λ v. worst v c.in_ok-after.after.verdict) c.and.ensures)
          (status_then (status_then (c.fields.invariant.status (left + 1) (omega (arith, size)))
          (status_at (Are (left + 1) c.fields.index) (From left) c.in_ok-step.step.rest.now c.at-here.ensures.marked c.at-here.ensures.beyond c.at-here.ensures.octets (c.in_ok-step.ensures.status left (omega (arith, size)))))
          (status_at (From left) (Next left) c.in_ok-after.after.rest.now c.at.ensures.marked c.at.ensures.beyond c.at.ensures.octets (c.in_ok-after.ensures.status left (known_in c.in_ok-step.step.known) (omega (arith, size)))));
      low = omega (arith, c.fields.invariant.low);
      high = omega (arith, c.fields-test.true, c.end_of-end.ensures);
      log = logs_is (c.and-verdict.ensures ∙ ap (λ v. worst v c.in_ok-after.after.verdict) c.and.ensures) (logs_then (logs_then c.fields.invariant.log c.in_ok-step.ensures.log) c.in_ok-after.ensures.log);
      end = c.in_ok-after.ensures.end ∙ c.in_ok-step.ensures.end ∙ c.fields.invariant.end;
      shorter = omega (arith, c.fields.invariant.shorter, c.in_ok-step.ensures.shorter, ap length c.at-here.ensures.octets, c.in_ok-after.ensures.shorter, ap length c.at.ensures.octets);
    }

pub components::components-returns-clause-finds : goal.components::components-returns-clause-finds
components::components-returns-clause-finds t c =
    let end = body_at (λ rules inner. inner ≡ []) c.at-2.ensures.marked c.at-2.ensures.beyond c.at-2.ensures.octets c.in_ok-last.ensures.finds in
    finds_is c.and-2.ensures (status_ends (c.fields.invariant.status 0 (omega (arith, c.fields-test.false, c.end_of-end.ensures, c.fields.invariant.high))) end)

pub components::components-returns-clause-log : goal.components::components-returns-clause-log
components::components-returns-clause-log t c =
    logs_is c.and-2.ensures (logs_then c.fields.invariant.log c.in_ok-last.ensures.log)

pub components::items-items-preserved : goal.components::items-items-preserved
components::items-items-preserved t c =
    let now = c.items.rest.now in
    let after = c.in_ok-outcome.outcome.rest.now in
    let here = take (length now - length after) now in
    let Count : ℕ → Type 0 = IsAllowedSize (types_in c.args.schema.now.octets.now) c.args.node.limits in
    let Item : EncodingRules → List ℕ → Type 0 = λ rules. IsValue (types_in c.args.schema.now.octets.now) c.args.depth rules (known_in c.args.known) c.inner_of-item.result in
    let finds = finds_at (λ rules. IsValue (types_in c.args.schema.now.octets.now) c.args.depth rules (known_in c.args.known) c.inner_of-item.result) c.at-place.ensures.octets c.in_ok-outcome.ensures.finds in
    let on = goes_on c.is_ended.result c.is_ended.ensures c.at.ensures.marked c.at.ensures.octets (search rules) in
    record {
      status = status_is (c.and-verdict.ensures ∙ ap (λ v. worst v c.in_ok-order.order) c.and.ensures ∙ worst_assoc c.items.verdict c.in_ok-outcome.outcome.verdict c.in_ok-order.order)
          (status_then c.items.invariant.status (item_counted c.args.sorted Item Count c.items.count c.args.opened.marked c.args.opened.beyond.now c.items.before.now now after here
          (item_found c.args.sorted (λ n. Count (c.items.count + n)) c.in_ok-order.order c.args.opened.marked c.args.opened.beyond.now c.items.before.now now after here on finds (λ x e. taken now x after e) (test_is c.in_ok-order.ensures.verdict c.order_rule.ensures))));
      log = logs_is (c.and-verdict.ensures ∙ ap (λ v. worst v c.in_ok-order.order) c.and.ensures) (logs_then (logs_then c.items.invariant.log c.in_ok-outcome.ensures.log) c.in_ok-order.ensures.log);
      end = c.in_ok-order.ensures.end ∙ c.in_ok-outcome.ensures.end ∙ c.items.invariant.end;
      few = omega (arith, c.items.invariant.few, c.in_ok-outcome.ensures.moves (omega (arith, some_left c.args.opened.marked now on, ap length c.at-place.ensures.octets)), ap length c.at-place.ensures.octets);
    }

pub components::items-returns-clause-finds : goal.components::items-returns-clause-finds
components::items-returns-clause-finds t c =
    let now = c.items.rest.now in
    let Count : ℕ → Type 0 = IsAllowedSize (types_in c.args.schema.now.octets.now) c.args.node.limits in
    let at = has_ended c.is_ended.result c.is_ended.ensures c.at.ensures.marked c.at.ensures.octets (search rules) in
    let end = body_at (λ rules inner. inner ≡ []) c.at-2.ensures.marked c.at-2.ensures.beyond c.at-2.ensures.octets c.in_ok-end.ensures.finds in
    finds_items (λ rules i. SomeItems c.args.sorted rules (IsValue (types_in c.args.schema.now.octets.now) c.args.depth rules (known_in c.args.known) i) Count) c.args.opened.marked c.args.opened.beyond.now c.args.opened.inside.octets.now c.args.node.inner c.inner_of-item.result c.inner_of-item.ensures
    (finds_is (c.and-3.ensures ∙ ap (λ v. worst c.items.verdict v) c.and-2.ensures) (status_ends c.items.invariant.status
    (items_end c.args.sorted (λ rules. IsValue (types_in c.args.schema.now.octets.now) c.args.depth rules (known_in c.args.known) c.inner_of-item.result) (λ n. Count (c.items.count + n)) (value_elements (types_in c.args.schema.now.octets.now) c.args.depth (known_in c.args.known) c.inner_of-item.result) c.args.opened.marked c.args.opened.beyond.now c.items.before.now now at (count_test c.in_ok-size.ensures.verdict c.count_rule.ensures) end)))
  where
    count_test : {v w : Verdict} → v ≡ w → ((r : EncodingRules) → (holds r w ≡ true) ↔ IsAllowedSize (types_in c.args.schema.now.octets.now) c.args.node.limits c.items.count) → (r : EncodingRules) → (holds r v ≡ true) ↔ IsAllowedSize (types_in c.args.schema.now.octets.now) c.args.node.limits (c.items.count + 0)
    count_test {v} {w} e test r =
        let none : c.items.count ≡ c.items.count + 0 = omega arith in
        subst (λ n. (holds r v ≡ true) ↔ IsAllowedSize (types_in c.args.schema.now.octets.now) c.args.node.limits n) none (subst (λ u. (holds r u ≡ true) ↔ IsAllowedSize (types_in c.args.schema.now.octets.now) c.args.node.limits c.items.count) (sym e) (test r))

pub components::items-returns-clause-log : goal.components::items-returns-clause-log
components::items-returns-clause-log t c =
    logs_is (c.and-3.ensures ∙ ap (λ v. worst c.items.verdict v) c.and-2.ensures) (logs_then c.items.invariant.log (logs_then c.in_ok-size.ensures.log c.in_ok-end.ensures.log))

pub components::explicit-returns-clause-finds : goal.components::explicit-returns-clause-finds
components::explicit-returns-clause-finds t c =
    let m = c.args.opened.marked in
    let b = c.args.opened.beyond.now in
    let end = body_at (λ rules inner. inner ≡ []) c.at.ensures.marked c.at.ensures.beyond c.at.ensures.octets c.in_ok-end.ensures.finds in
    finds_is c.and.ensures (status_ends (inner_found m b c.args.opened.inside.octets.now c.in_ok-outcome.outcome.rest.now c.in_ok-outcome.ensures.finds) end)

pub components::explicit-returns-clause-log : goal.components::explicit-returns-clause-log
components::explicit-returns-clause-log t c =
    logs_is c.and.ensures (logs_then c.in_ok-outcome.ensures.log c.in_ok-end.ensures.log)

pub typed::of_type-returns-then-header-clause-finds : goal.typed::of_type-returns-then-header-clause-finds
typed::of_type-returns-then-header-clause-finds t c =
    subst (λ k. Finds (λ rules. Body c.args.opened.marked c.args.opened.beyond.now (IsOfType k c.args.header.constructed rules (types_in c.args.schema.now.octets.now) (IsValue (types_in c.args.schema.now.octets.now) c.args.depth) (IsAny c.args.depth) (known_in c.args.known) c.args.node c.args.universal) c.args.opened.inside.octets.now) c.in_ok-outcome.outcome.verdict c.in_ok-outcome.outcome.rest.now) (sym c.if-is_joined.false ∙ c.is_joined.ensures)
    (finds_unbounded (types_in c.args.schema.now.octets.now) (IsValue (types_in c.args.schema.now.octets.now) c.args.depth) (known_in c.args.known) c.args.node c.args.universal (λ rules. IsUnknownType rules (IsAny c.args.depth) (Some c.args.universal) c.args.header.constructed) c.args.header.constructed c.args.opened.marked c.args.opened.beyond.now c.args.opened.inside.octets.now c.if-header.true c.in_ok-outcome.ensures.finds)

pub components::items-items-init : goal.components::items-items-init
components::items-items-init t c =
    let Count : ℕ → Type 0 = IsAllowedSize (types_in c.args.schema.now.octets.now) c.args.node.limits in
    record {
      status = items_begin c.args.sorted (λ rules. IsValue (types_in c.args.schema.now.octets.now) c.args.depth rules (known_in c.args.known) c.inner_of-item.result) Count c.args.opened.marked c.args.opened.beyond.now c.args.opened.inside.octets.now;
      log = logs_none c.args.notes.now;
      end = refl;
      few = omega arith;
    }

pub typed::of_type-returns-clause-finds : goal.typed::of_type-returns-clause-finds
typed::of_type-returns-clause-finds t c =
    let test = subst (λ o. (r : EncodingRules) → (holds r c.in_ok-value.value ≡ true) ↔ IsContained r (types_in c.args.schema.now.octets.now) (IsValue (types_in c.args.schema.now.octets.now) c.args.depth) (known_in c.args.known) o c.args.opened.inside.octets.now) c.contained_in-inner.ensures c.in_ok-value.ensures.exact in
    let tests = both_tests (test_is c.in_ok-kept.ensures.verdict c.constraint_rule-rule.ensures) test in
    subst (λ k. Finds (λ rules. Body c.args.opened.marked c.args.opened.beyond.now (IsOfType k c.args.header.constructed rules (types_in c.args.schema.now.octets.now) (IsValue (types_in c.args.schema.now.octets.now) c.args.depth) (IsAny c.args.depth) (known_in c.args.known) c.args.node c.args.universal) c.args.opened.inside.octets.now) c.and-2.result c.in_ok-outcome.outcome.rest.now) (sym c.if-is_joined.false ∙ c.is_joined.ensures)
    (finds_is (c.and-2.ensures ∙ ap (λ v. worst c.in_ok-outcome.outcome.verdict v) c.and.ensures)
    (finds_also (λ rules. IsUnknownType rules (IsAny c.args.depth) (Some c.args.universal) c.args.header.constructed) (λ rules. AreBounded c.args.header.constructed rules (types_in c.args.schema.now.octets.now) (IsValue (types_in c.args.schema.now.octets.now) c.args.depth) (known_in c.args.known) c.args.node c.args.universal) c.args.opened.marked c.args.opened.beyond.now c.args.opened.inside.octets.now (c.requires.form c.if-header.false) c.in_ok-outcome.ensures.finds
    (subst (λ k. (r : EncodingRules) → (holds r (worst c.in_ok-kept.kept c.in_ok-value.value) ≡ true) ↔ AreBounded k r (types_in c.args.schema.now.octets.now) (IsValue (types_in c.args.schema.now.octets.now) c.args.depth) (known_in c.args.known) c.args.node c.args.universal c.args.opened.inside.octets.now) (sym c.if-header.false) tests)))

pub typed::of_type-returns-clause-log : goal.typed::of_type-returns-clause-log
typed::of_type-returns-clause-log t c =
    logs_is (c.and-2.ensures ∙ ap (λ v. worst c.in_ok-outcome.outcome.verdict v) c.and.ensures) (logs_then c.in_ok-outcome.ensures.log (logs_then c.in_ok-kept.ensures.log c.in_ok-value.ensures.log))

pub typed::contained_value-returns-clause-exact : goal.typed::contained_value-returns-clause-exact
typed::contained_value-returns-clause-exact t c =
    let octets = c.args.place.octets.now in
    contains_value (types_in c.args.schema.now.octets.now) (IsValue (types_in c.args.schema.now.octets.now) c.args.depth) (known_in c.args.known) c.args.index octets (λ is. let on : c.is_unknown.result ≡ true = c.is_unknown.ensures.1 is in let off = c.if-is_unknown.false in absurd (cc))
    (exact_of (sym c.and.ensures) (whole_found octets c.in_ok-outcome.ensures.finds (body_at (λ rules inner. inner ≡ []) {b = []} {m = false} refl refl c.at.ensures.octets c.in_ok-end.ensures.finds)))

pub typed::contained_value-returns-clause-log : goal.typed::contained_value-returns-clause-log
typed::contained_value-returns-clause-log t c =
    logs_is c.and.ensures (logs_then c.in_ok-outcome.ensures.log c.in_ok-end.ensures.log)

pub typed::of_type-returns-then-is_joined-clause-finds : goal.typed::of_type-returns-then-is_joined-clause-finds
typed::of_type-returns-then-is_joined-clause-finds t c =
    if_ok c.joined_text.result (λ o f. subst (λ k. Finds (λ rules. Body c.args.opened.marked c.args.opened.beyond.now (IsOfType k c.args.header.constructed rules (types_in c.args.schema.now.octets.now) (IsValue (types_in c.args.schema.now.octets.now) c.args.depth) (IsAny c.args.depth) (known_in c.args.known) c.args.node c.args.universal) c.args.opened.inside.octets.now) o.verdict o.rest.now) (sym c.if-is_joined.true ∙ c.is_joined.ensures) f) c.joined_text.ensures.finds

pub typed::contents-returns-in-Members-clause-finds : goal.typed::contents-returns-in-Members-clause-finds
typed::contents-returns-in-Members-clause-finds t c =
    let shape : shape_of c.args.node.kind ≡ Members = sym c.of-shape.ensures ∙ c.in-Members.is in
    let on = c.has_wrong_form.ensures.right c.if-has_wrong_form.false (ap is_constructed c.in-Members.is) in
    if_ok c.members.result (λ o f. finds_shape (types_in c.args.schema.now.octets.now) (IsValue (types_in c.args.schema.now.octets.now) c.args.depth) (IsAny c.args.depth) (known_in c.args.known) c.args.node c.args.header c.args.opened.marked c.args.opened.beyond.now c.args.opened.inside.octets.now shape
    (finds_given c.args.opened.marked c.args.opened.beyond.now c.args.opened.inside.octets.now on f)) c.members.ensures.finds

pub members::members-members-init : goal.members::members-members-init
members::members-members-init t c = record {
  status = none_seen (fields_of c.new-seen.result) search;
  log = logs_none c.args.notes.now;
  end = refl;
  shorter = omega arith;
}
  where
    none_seen : (seen : List ℕ) → seen ≡ []
        → Status Der (λ rules. Body c.args.opened.marked c.args.opened.beyond.now (SomeMembers (IsValue (types_in c.args.schema.now.octets.now) c.args.depth) (IsAny c.args.depth) rules (types_in c.args.schema.now.octets.now) c.args.node seen []) c.args.opened.inside.octets.now)
        (λ rules. Body c.args.opened.marked c.args.opened.beyond.now (SomeMembers (IsValue (types_in c.args.schema.now.octets.now) c.args.depth) (IsAny c.args.depth) rules (types_in c.args.schema.now.octets.now) c.args.node [] []) c.args.opened.inside.octets.now)
    none_seen seen e =
        subst (λ q. Status Der (λ rules. Body c.args.opened.marked c.args.opened.beyond.now (SomeMembers (IsValue (types_in c.args.schema.now.octets.now) c.args.depth) (IsAny c.args.depth) rules (types_in c.args.schema.now.octets.now) c.args.node q []) c.args.opened.inside.octets.now) (λ rules. Body c.args.opened.marked c.args.opened.beyond.now (SomeMembers (IsValue (types_in c.args.schema.now.octets.now) c.args.depth) (IsAny c.args.depth) rules (types_in c.args.schema.now.octets.now) c.args.node [] []) c.args.opened.inside.octets.now)) (sym e)
        (status_same (λ rules r. ((λ h. h), (λ h. h))))

pub members::members-members-preserved : goal.members::members-members-preserved
members::members-members-preserved t c =
    let now = c.members.rest.now in
    let after = c.in_ok-outcome.outcome.rest.now in
    let here = take (length now - length after) now in
    let on = goes_on c.is_ended.result c.is_ended.ensures c.at.ensures.marked c.at.ensures.octets (search rules) in
    let finds = finds_at (λ rules. IsSomeMember (IsValue (types_in c.args.schema.now.octets.now) c.args.depth) (IsAny c.args.depth) (types_in c.args.schema.now.octets.now) c.args.node (fields_of c.members.seen) rules) c.at-place.ensures.octets c.in_ok-outcome.ensures.finds in
    record {
      status = status_is (c.and-verdict.ensures ∙ ap (λ v. worst v c.in_ok-order.order) c.and.ensures ∙ worst_assoc c.members.verdict c.in_ok-outcome.outcome.verdict c.in_ok-order.order)
          (status_then c.members.invariant.status
          (member_found (fields_of c.members.seen) (fields_of c.member.new.seen) c.members.before.now now after here c.in_ok-order.order c.args.opened.marked c.args.opened.beyond.now on finds
          (λ rules x r s e is. c.in_ok-outcome.ensures.only rules x r s (c.at-place.ensures.octets ∙ e) is)
          (λ x e. taken now x after e) (test_is c.in_ok-order.ensures.verdict c.tag_order_rule.ensures)));
      log = logs_is (c.and-verdict.ensures ∙ ap (λ v. worst v c.in_ok-order.order) c.and.ensures) (logs_then (logs_then c.members.invariant.log c.in_ok-outcome.ensures.log) c.in_ok-order.ensures.log);
      end = c.in_ok-order.ensures.end ∙ c.in_ok-outcome.ensures.end ∙ c.members.invariant.end;
      shorter = omega (arith, c.members.invariant.shorter, c.in_ok-outcome.ensures.shorter, ap length c.at-place.ensures.octets);
    }

pub members::members-returns-clause-finds : goal.members::members-returns-clause-finds
members::members-returns-clause-finds t c =
    let now = c.members.rest.now in
    let at = has_ended c.is_ended.result c.is_ended.ensures c.at.ensures.marked c.at.ensures.octets (search rules) in
    let end = body_at (λ rules inner. inner ≡ []) c.at-3.ensures.marked c.at-3.ensures.beyond c.at-3.ensures.octets c.in_ok-end.ensures.finds in
    let present = subst (λ s. (rules : EncodingRules) → (holds rules c.in_ok-present.present ≡ true) ↔ ArePresent (types_in c.args.schema.now.octets.now) c.args.node s) c.as_slice.ensures.value c.in_ok-present.ensures.exact in
    finds_is (c.and-3.ensures ∙ ap (λ v. worst c.members.verdict v) c.and-2.ensures) (status_ends c.members.invariant.status
    (members_end (value_begins (types_in c.args.schema.now.octets.now) c.args.depth) (any_elements c.args.depth) c.args.node (fields_of c.members.seen) c.members.before.now now c.args.opened.marked c.args.opened.beyond.now at present end))

pub members::members-returns-clause-log : goal.members::members-returns-clause-log
members::members-returns-clause-log t c =
    logs_is (c.and-3.ensures ∙ ap (λ v. worst c.members.verdict v) c.and-2.ensures) (logs_then c.members.invariant.log (logs_then c.in_ok-present.ensures.log c.in_ok-end.ensures.log))

pub members::member-returns-then-is_seen-clause-finds : goal.members::member-returns-then-is_seen-clause-finds
members::member-returns-then-is_seen-clause-finds t c =
    finds_never (c.and.ensures ∙ ap (λ v. worst v c.in_ok-outcome-in-Some.outcome.verdict) c.in_ok-again-in-Some.ensures.verdict)
    (λ rules r f.
    let found = c.in-Some.ensures.found in
    let new = (member_of_field (value_begins (types_in c.args.schema.now.octets.now) c.args.depth) (any_elements c.args.depth) c.args.node c.requires.kind (c.requires.distinct c.requires.row.0 c.args.node c.requires.row.1) found.3.0 c.args.place.octets.now found.3.1 c.in-Some.index found.0 found.2 found.3.3 (fields_of c.args.seen.now) rules f.0 r f.2.0 f.1 f.2.1).0 in
    let seen : is_seen (fields_of c.args.seen.now) c.in-Some.index ≡ true = subst (λ q. is_seen q c.in-Some.index ≡ true) c.as_slice.ensures.value (sym c.is_seen.ensures ∙ c.if-is_seen.true) in
    absurd (cc))

pub members::member-returns-then-is_seen-clause-only : goal.members::member-returns-then-is_seen-clause-only
members::member-returns-then-is_seen-clause-only t c rules x r after e is =
    let found = c.in-Some.ensures.found in
    let new = (member_of_field (value_begins (types_in c.args.schema.now.octets.now) c.args.depth) (any_elements c.args.depth) c.args.node c.requires.kind (c.requires.distinct c.requires.row.0 c.args.node c.requires.row.1) found.3.0 c.args.place.octets.now found.3.1 c.in-Some.index found.0 found.2 found.3.3 (fields_of c.args.seen.now) rules x r after e is).0 in
    let seen : is_seen (fields_of c.args.seen.now) c.in-Some.index ≡ true = subst (λ q. is_seen q c.in-Some.index ≡ true) c.as_slice.ensures.value (sym c.is_seen.ensures ∙ c.if-is_seen.true) in
    absurd (cc)

pub members::member-returns-then-is_seen-clause-log : goal.members::member-returns-then-is_seen-clause-log
members::member-returns-then-is_seen-clause-log t c =
    logs_is c.and.ensures (logs_then c.in_ok-again-in-Some.ensures.log c.in_ok-outcome-in-Some.ensures.log)

pub members::member-returns-in_ok-push-in-Some-clause-finds : goal.members::member-returns-in_ok-push-in-Some-clause-finds
members::member-returns-in_ok-push-in-Some-clause-finds t c =
    let found = c.in-Some.ensures.found in
    let new : is_seen (fields_of c.args.seen.now) c.in-Some.index ≡ false = subst (λ q. is_seen q c.in-Some.index ≡ false) c.as_slice.ensures.value (sym c.is_seen.ensures ∙ c.if-is_seen.false) in
    if_ok c.field_value-in-Some.result (λ o f. finds_component (value_begins (types_in c.args.schema.now.octets.now) c.args.depth) (any_elements c.args.depth) c.args.node c.requires.kind (c.requires.distinct c.requires.row.0 c.args.node c.requires.row.1) found.3.0 c.args.place.octets.now found.3.1 c.in-Some.index found.0 found.2 found.3.3 (fields_of c.args.seen.now) new (f found.0 found.2.row)) c.field_value-in-Some.ensures.finds

pub members::member-returns-in_ok-push-in-Some-clause-only : goal.members::member-returns-in_ok-push-in-Some-clause-only
members::member-returns-in_ok-push-in-Some-clause-only t c =
    let found = c.in-Some.ensures.found in
    if_ok c.field_value-in-Some.result (λ o log rules x r after e is. (member_of_field (value_begins (types_in c.args.schema.now.octets.now) c.args.depth) (any_elements c.args.depth) c.args.node c.requires.kind (c.requires.distinct c.requires.row.0 c.args.node c.requires.row.1) found.3.0 c.args.place.octets.now found.3.1 c.in-Some.index found.0 found.2 found.3.3 (fields_of c.args.seen.now) rules x r after e is).1 ∙ sym c.in_ok-push-in-Some.ensures.items) c.field_value-in-Some.ensures.log

pub members::member-returns-then-node-clause-finds : goal.members::member-returns-then-node-clause-finds
members::member-returns-then-node-clause-finds t c =
    if_ok c.any.result (λ o f. finds_addition (value_begins (types_in c.args.schema.now.octets.now) c.args.depth) (any_elements c.args.depth) c.args.node c.if-node.true c.args.place.octets.now (λ k f is. c.in-None.ensures.none k f is.part.0 is) (fields_of c.args.seen.now) f) c.any.ensures.finds

pub members::member-returns-then-node-clause-only : goal.members::member-returns-then-node-clause-only
members::member-returns-then-node-clause-only t c =
    if_ok c.any.result (λ o log rules x r after e is. (member_of_none (value_begins (types_in c.args.schema.now.octets.now) c.args.depth) c.args.node c.args.place.octets.now (λ k f is. c.in-None.ensures.none k f is.part.0 is) (fields_of c.args.seen.now) rules x r after e is).1) c.any.ensures.log

pub members::member-returns-in_ok-outcome-in-None-clause-finds : goal.members::member-returns-in_ok-outcome-in-None-clause-finds
members::member-returns-in_ok-outcome-in-None-clause-finds t c =
    finds_never (c.and-in-None.ensures ∙ ap (λ v. worst v c.in_ok-outcome-in-None.outcome.verdict) c.in_ok-other-in-None.ensures.verdict)
    (λ rules r f.
    let on = (member_of_none (value_begins (types_in c.args.schema.now.octets.now) c.args.depth) c.args.node c.args.place.octets.now (λ k f is. c.in-None.ensures.none k f is.part.0 is) (fields_of c.args.seen.now) rules f.0 r f.2.0 f.1 f.2.1).0 in
    let off = c.if-node.false in
    absurd (cc))

pub members::member-returns-in_ok-outcome-in-None-clause-only : goal.members::member-returns-in_ok-outcome-in-None-clause-only
members::member-returns-in_ok-outcome-in-None-clause-only t c rules x r after e is =
    (member_of_none (value_begins (types_in c.args.schema.now.octets.now) c.args.depth) c.args.node c.args.place.octets.now (λ k f is. c.in-None.ensures.none k f is.part.0 is) (fields_of c.args.seen.now) rules x r after e is).1

pub members::member-returns-in_ok-outcome-in-None-clause-log : goal.members::member-returns-in_ok-outcome-in-None-clause-log
members::member-returns-in_ok-outcome-in-None-clause-log t c =
    logs_is c.and-in-None.ensures (logs_then c.in_ok-other-in-None.ensures.log c.in_ok-outcome-in-None.ensures.log)
