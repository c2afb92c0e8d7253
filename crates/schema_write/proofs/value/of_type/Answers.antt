use Rattle.std.proofs.Common.{rules, ◌≡◌, ◌∙◌, true, false, refl, sym, subst}
use Rattle.schema_read.specs.Value.{is_joined}
use Rattle.schema_read.proofs.ResultLemmas.{if_ok}
use Rattle.schema_write.specs.Rewriting.{rewriting_of, IsRewritten}
use Rattle.schema_write.specs.Same.{IsElementOf, IsTextOf, IsSame, IsNodeSame, primitive, whole}
use Rattle.schema_write.proofs.value.of_type.Goals as goal

pub returns-then-is_joined : goal.returns-then-is_joined
returns-then-is_joined c =
    let u = c.args.universal in
    let piece = c.args.piece in
    let joined : is_joined piece.header.constructed u ≡ true = sym c.is_joined.ensures ∙ c.if-is_joined.true in
    record {
      same = if_ok c.element.result (λ w e t d known.
          primitive c.in_ok-text.text.items c.requires.kind c.requires.piece
          (subst (λ b. IsTextOf b u piece.contents.now c.in_ok-text.text.items) (sym joined) c.in_ok-text.ensures)
          (subst (λ q. IsRewritten (rewriting_of u) c.args.node.parts.count q c.in_ok-contents.contents.items) c.as_slice.ensures.value c.in_ok-contents.ensures)
          (subst (λ q. IsElementOf piece.header false q w.items) c.as_slice-then-is_joined.ensures.value e)) c.element.ensures;
    }

pub returns-then-piece : goal.returns-then-piece
returns-then-piece c =
    let same : c.in_ok-to_vec.field-0.items ≡ c.args.piece.octets.now = search rules in
    record {
      same = λ t d known. subst (λ q. IsNodeSame t (IsSame t d) known c.args.node c.args.piece.octets.now q) (sym same)
          (whole c.requires.kind c.requires.piece c.if-piece.true (sym c.is_joined.ensures ∙ c.if-is_joined.false));
    }

pub returns : goal.returns
returns c =
    let u = c.args.universal in
    let piece = c.args.piece in
    let joined : is_joined piece.header.constructed u ≡ false = sym c.is_joined.ensures ∙ c.if-is_joined.false in
    record {
      same = if_ok c.element-2.result (λ w e t d known.
          primitive piece.contents.now c.requires.kind c.requires.piece
          (subst (λ b. IsTextOf b u piece.contents.now piece.contents.now) (sym joined) refl) c.in_ok-contents-2.ensures
          (subst (λ q. IsElementOf piece.header false q w.items) c.as_slice-2.ensures.value e)) c.element-2.ensures;
    }
