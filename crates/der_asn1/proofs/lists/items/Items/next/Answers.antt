use mathlib.Core.Logic.{∥∥₁_map}
use Rattle.std.proofs.Common.{refl, sym, ap, subst, ◌∙◌}
use Rattle.std.proofs.lemmas.Result.{err_from_is_err_and}
use Rattle.der.specs.ReaderState.{rest_of, Reads}
use Rattle.der.specs.SliceReader.{slice_state}
use Rattle.der_asn1.specs.SequenceOf.{IsListOf}
use Rattle.der_asn1.proofs.SequenceOfLemmas.{slice_sound, still_at_item, lacks_merely}
use Rattle.der_asn1.proofs.OptionalReadLemmas.{rest_before_end}
use Rattle.der_asn1.proofs.lists.items.Items.next.Goals as goal

pub invariant_of-self : goal.invariant_of-self
invariant_of-self g c =
    let same = c.fork-reader.ensures in
    record {
      at = still_at_item c.args.self.now.at (subst (λ x. Reads x (slice_state c.next_item.new.reader) (g.T.Item.item.octets c.in_ok-item.item)) same c.in_ok-item.ensures.ok.1);
      left = ∥∥₁_map c.args.self.now.left (λ l. c.in_ok-item.ensures.keeps (subst (λ x. IsListOf g.T.Item.item.valid g.T.Item.item.octets (rest_of x)) (sym same) l)
          (λ e. rest_before_end (slice_state c.args.self.now.reader) (slice_sound c.args.self.now.reader) (λ f. (let is = c.is_finished.ensures.1 f in let other = c.if-is_finished.false in cc)) (ap rest_of (sym same) ∙ e)));
    }

pub returns-in_err-item-clause-lacks : goal.returns-in_err-item-clause-lacks
returns-in_err-item-clause-lacks g c =
    let same = c.fork-reader.ensures in
    let p = err_from_is_err_and c.from_residual.result c.from_residual.ensures.1 in
    rw (p.1, p.2) (lacks_merely g.T.Error.DecodeError.out_of_memory g.T.Item.item.allocates c.in_err-item.field-0.0 c.args.self.now.left
    (λ l. c.in_err-item.ensures.complete refl (subst (λ x. IsListOf g.T.Item.item.valid g.T.Item.item.octets (rest_of x)) (sym same) l)
    (λ e. rest_before_end (slice_state c.args.self.now.reader) (slice_sound c.args.self.now.reader) (λ f. (let is = c.is_finished.ensures.1 f in let other = c.if-is_finished.false in cc)) (ap rest_of (sym same) ∙ e))))
