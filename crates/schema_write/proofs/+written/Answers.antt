use Rattle.std.proofs.Common.{rules, ◌≡◌, ◌∙◌, ◌+◌, [], ◌++◌, true, None, Some, map, refl, sym, ap, subst, append_assoc, arith, inr}
use Rattle.std.specs.List.{concat}
use Rattle.std.proofs.lemmas.List.Sorted.{IsPermutation-map}
use Rattle.schema_types.specs.Tags.{IsFieldOf}
use Rattle.schema_read.specs.Known.{known_in}
use Rattle.schema_read.specs.Types.{types_in}
use Rattle.schema_read.proofs.ResultLemmas.{if_ok}
use Rattle.schema_write.specs.Components.{AreComponents, none as no_component, component, addition, IsComponent, IsLeft, out, in_place, IsMember}
use Rattle.schema_write.specs.Lists.{AreWritten, none as no_element}
use Rattle.schema_write.specs.Same.{IsSame, IsNodeSame, IsElementOf, chosen, copied, inside}
use Rattle.schema_write.proofs.ListLemmas.{written_more}
use Rattle.schema_write.proofs.SameLemmas.{selected_same}
use Rattle.schema_write.proofs.+written.Goals as goal

pub components::component-returns-then-is_default : goal.components::component-returns-then-is_default
components::component-returns-then-is_default t c =
    let t = types_in c.args.schema.now.octets.now in
    let g = c.field_of-field.result in
    let w = c.in_ok-written.written.items in
    let is = c.is_default.ensures.0 c.if-is_default.true in
    record {
      same = λ f row.
          let both : Some g ≡ Some f = sym c.field_of-field.ensures.value ∙ row in
          let it : g ≡ f = cc in
          subst (λ q. IsComponent (IsSame t c.args.depth) t (known_in c.args.known) q c.args.piece.octets.now c.new.result.items) it
          (w, c.in_ok-written.ensures.same, subst (λ q. IsLeft t g w q) (sym c.new.ensures.items) (out is.0 (sym c.as_slice.ensures.value ∙ is.1)));
    }

pub components::component-returns-else-is_default : goal.components::component-returns-else-is_default
components::component-returns-else-is_default t c =
    let t = types_in c.args.schema.now.octets.now in
    let g = c.field_of-field.result in
    let w = c.in_ok-written.written.items in
    record {
      same = λ f row.
          let both : Some g ≡ Some f = sym c.field_of-field.ensures.value ∙ row in
          let it : g ≡ f = cc in
          subst (λ q. IsComponent (IsSame t c.args.depth) t (known_in c.args.known) q c.args.piece.octets.now w) it (
            w,
            c.in_ok-written.ensures.same,
            in_place (λ p e.
                let yes = c.is_default.ensures.1 (p, c.as_slice.ensures.value ∙ e) in
                let no = c.if-is_default.false in
                absurd (cc)),
          );
    }

pub components::components-elements-init : goal.components::components-elements-init
components::components-elements-init t c = record {
  start = omega arith;
  before = [];
  split = refl;
  are = subst (λ q. AreComponents (IsSame (types_in c.args.schema.now.octets.now) c.args.depth) (types_in c.args.schema.now.octets.now) c.args.node c.args.node.parts.start None [] q) (sym c.new-out.ensures.items) no_component;
}

pub components::components-elements-preserved : goal.components::components-elements-preserved
components::components-elements-preserved t c =
    let inv = c.elements.invariant in
    let piece = c.in_ok-piece.piece in
    record {
      start = c.in_ok-passed.ensures.part;
      before = inv.before ++ piece.octets.now;
      split = inv.split ∙ ap (λ q. inv.before ++ q) c.in_ok-piece.ensures.split ∙ sym (append_assoc inv.before piece.octets.now piece.rest.now);
      are = c.in_ok-passed.ensures.same inv.before inv.are;
    }

pub components::step-returns-in_ok-extend_from_slice-in-Some-clause-same :
    goal.components::step-returns-in_ok-extend_from_slice-in-Some-clause-same
components::step-returns-in_ok-extend_from_slice-in-Some-clause-same t c before are =
    let table = types_in c.args.schema.now.octets.now in
    let found = c.in-Some.ensures.found in
    let f = c.field_of-field.result in
    let known = known_in c.in_ok-known-in-Some.known in
    let all = before ++ c.args.piece.octets.now in
    let new = c.in_ok-extend_from_slice-in-Some.ensures.items ∙ ap (λ q. c.args.out.now.items ++ q) c.as_slice.ensures.value in
    let is : IsFieldOf table c.args.node c.in-Some.index f = record { part = found.2.part; row = c.field_of-field.ensures.value } in
    subst (λ q. AreComponents (IsSame table c.args.depth) table c.args.node q known all c.extend_from_slice.new.self.items) (sym c.after.ensures)
    (subst (λ q. AreComponents (IsSame table c.args.depth) table c.args.node (c.in-Some.index + 1) known all q) (sym new)
    (component are found.1 found.4 is (c.in_ok-written-in-Some.ensures.same f c.field_of-field.ensures.value) c.in_ok-known-in-Some.ensures))

pub components::step-returns-in_ok-extend_from_slice-in-None-clause-same :
    goal.components::step-returns-in_ok-extend_from_slice-in-None-clause-same
components::step-returns-in_ok-extend_from_slice-in-None-clause-same t c before are =
    let table = types_in c.args.schema.now.octets.now in
    subst (λ q. AreComponents (IsSame table c.args.depth) table c.args.node c.args.passed.index (known_in c.args.passed.known) (before ++ c.args.piece.octets.now) q) (sym c.in_ok-extend_from_slice-in-None.ensures.items)
    (addition are c.in-None.ensures.none)

pub items::each-items-init : goal.items::each-items-init
items::each-items-init t c =
    ([], refl, subst (λ q. AreWritten (IsSame (types_in c.args.schema.now.octets.now) c.args.depth (known_in c.args.known) c.args.node) [] (map (λ v. v.items) q)) (sym c.new-written.ensures.items) no_element)

pub items::each-items-preserved : goal.items::each-items-preserved
items::each-items-preserved t c =
    written_more c.in_ok-piece.piece.octets.now c.in_ok-piece.piece.rest.now c.in_ok-item.item.items c.items.invariant c.in_ok-piece.ensures.split c.in_ok-item.ensures.same c.in_ok-keep.ensures

pub items::each_member-members-init : goal.items::each_member-members-init
items::each_member-members-init t c =
    ([], refl, subst (λ q. AreWritten (IsMember (IsSame (types_in c.args.schema.now.octets.now) c.args.depth) (types_in c.args.schema.now.octets.now) c.args.node) [] (map (λ v. v.items) q)) (sym c.new-written.ensures.items) no_element)

pub items::each_member-members-preserved : goal.items::each_member-members-preserved
items::each_member-members-preserved t c =
    written_more c.in_ok-piece.piece.octets.now c.in_ok-piece.piece.rest.now c.in_ok-element.element.items c.members.invariant c.in_ok-piece.ensures.split c.in_ok-element.ensures.same c.in_ok-keep.ensures

pub items::member-returns-in_ok-to_vec-in-None : goal.items::member-returns-in_ok-to_vec-in-None
items::member-returns-in_ok-to_vec-in-None t c =
    let same : c.in_ok-to_vec-in-None.field-0.items ≡ c.args.piece.octets.now = search rules in
    record { same = inr ((λ j f is. c.in-None.ensures.none j f is.part.0 is), same) }

pub items::members-returns : goal.items::members-returns
items::members-returns t c = record {
  same = (map (λ v. v.items) c.in_ok-written.written.items, map (λ v. v.items) c.sort_unstable_by.new.self.items, c.in_ok-written.ensures.same, IsPermutation-map (λ v. v.items) c.in_ok-written.written.items c.sort_unstable_by.new.self.items c.sort_unstable_by.ensures.permutation, c.in_ok-joined.ensures ∙ ap (λ q. concat (map (λ v. v.items) q)) c.as_slice.ensures.value);
}

pub items::sorted_items-returns : goal.items::sorted_items-returns
items::sorted_items-returns t c = record {
  same = (c.in-Some.inner, c.in-Some.is, (map (λ v. v.items) c.in_ok-written.written.items, map (λ v. v.items) c.sort_unstable_by.new.self.items, c.in_ok-written.ensures.same, IsPermutation-map (λ v. v.items) c.in_ok-written.written.items c.sort_unstable_by.new.self.items c.sort_unstable_by.ensures.permutation, c.in_ok-joined.ensures ∙ ap (λ q. concat (map (λ v. v.items) q)) c.as_slice.ensures.value));
}

pub value::node_value-returns-in_ok-to_vec-in-Untyped : goal.value::node_value-returns-in_ok-to_vec-in-Untyped
value::node_value-returns-in_ok-to_vec-in-Untyped t c =
    let same : c.in_ok-to_vec-in-Untyped.field-0.items ≡ c.args.piece.octets.now = search rules in
    record {
      same = subst (λ q. IsNodeSame (types_in c.args.schema.now.octets.now) (IsSame (types_in c.args.schema.now.octets.now) c.args.depth) (known_in c.args.known) c.args.node c.args.piece.octets.now q) (sym same)
          (copied (sym c.of.ensures ∙ c.in-Untyped.is));
    }

pub value::node_value-returns-in_ok-contents-in_default : goal.value::node_value-returns-in_ok-contents-in_default
value::node_value-returns-in_ok-contents-in_default t c = record {
  same = if_ok c.element.result (λ w e. inside c.requires.piece c.in_ok-contents-in_default.ensures.same (subst (λ q. IsElementOf c.args.piece.header true q w.items) c.as_slice.ensures.value e)) c.element.ensures;
}

pub value::selected_value-returns-in-Some : goal.value::selected_value-returns-in-Some
value::selected_value-returns-in-Some t c =
    let table = types_in c.args.schema.now.octets.now in
    let node = c.node_of-node.result in
    record {
      same = if_ok c.value.result (λ w is n row.
          let both : Some node ≡ Some n = sym c.node_of-node.ensures.value ∙ row in
          let it : node ≡ n = cc in
          subst (λ q. IsNodeSame table (IsSame table c.args.depth) (known_in c.args.known) q c.args.piece.octets.now w.items) it
          (chosen c.in-Some.ensures.kind c.in-Some.ensures.found is)) c.value.ensures.same;
    }

pub value::value-returns-in-Some : goal.value::value-returns-in-Some
value::value-returns-in-Some t c = record {
  same = if_ok c.selected_value.result (λ w f. selected_same (types_in c.args.schema.now.octets.now) c.args.depth (known_in c.args.known) c.args.node c.in-Some.selected.node c.args.piece.octets.now w.items (omega (arith, c.if-depth-eq0.false)) c.in-Some.ensures.found f) c.selected_value.ensures.same;
}
